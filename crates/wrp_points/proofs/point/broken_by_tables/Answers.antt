use Rattle.std.proofs.Common.{◌*◌, ℕ, List, length, ap, ◌∙◌, arith}
use Rattle.std.specs.List.{list_all}
use Rattle.wrp_town.specs.Arcs.{demands}
use Rattle.wrp_points.specs.Demands.{is_inside}
use Rattle.wrp_points.proofs.FewPairs.{point_numbers}
use Rattle.wrp_points.proofs.NumberSums.{numbers_fit}
use Rattle.wrp_points.proofs.Services.{demands_inside}
use Rattle.wrp_points.proofs.point.broken_by_tables.Goals as goal

pub is_in_box-requires-clause-numbers : goal.is_in_box-requires-clause-numbers
is_in_box-requires-clause-numbers c = point_numbers c.args.town.now c.args.node c.args.denominator c.args.numbers.now c.requires.numbers c.requires.legal

pub is_even-requires-clause-numbers : goal.is_even-requires-clause-numbers
is_even-requires-clause-numbers c = point_numbers c.args.town.now c.args.node c.args.denominator c.args.numbers.now c.requires.numbers c.requires.legal

pub price-requires-clause-numbers : goal.price-requires-clause-numbers
price-requires-clause-numbers c = point_numbers c.args.town.now c.args.node c.args.denominator c.args.numbers.now c.requires.numbers c.requires.legal

pub is_served-requires-clause-inside : goal.is_served-requires-clause-inside
is_served-requires-clause-inside c =
    let town = c.args.town.now in
    let full = c.is_even.ensures.full in
    ap (λ (ds : List (List ℕ)). list_all (is_inside (length c.is_even.new.tables.numbers.items)) ds) full.demands
    ∙ ap (λ (n : ℕ). list_all (is_inside n) (demands town)) full.arcs
    ∙ demands_inside town

pub is_served-requires-clause-small : goal.is_served-requires-clause-small
is_served-requires-clause-small c = λ arc.
    omega (arith, c.is_even.ensures.full.numbers arc, numbers_fit (2 * length c.args.town.now.streets) c.args.numbers.now arc (point_numbers c.args.town.now c.args.node c.args.denominator c.args.numbers.now c.requires.numbers c.requires.legal))
