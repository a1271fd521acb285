use Rattle.std.proofs.Common.{ℕ, List, length, ap, sym, ◌∙◌, subst}
use Rattle.wrp_points.specs.Points.{AreNumbers}
use Rattle.wrp_points.proofs.FewPairs.{point_numbers}
use Rattle.wrp_points.proofs.point.broken_point.Goals as goal

pub put_numbers-requires-clause-numbers : goal.put_numbers-requires-clause-numbers
put_numbers-requires-clause-numbers c =
    subst (λ (n : ℕ). AreNumbers n c.args.numbers.now) (sym (ap (λ (xs : List ℕ). length xs) c.deref_mut.ensures.value ∙ c.requires.clear.arcs))
    (point_numbers c.args.town.now c.args.node c.args.denominator c.args.numbers.now c.requires.numbers c.requires.legal)

pub clear_numbers-requires-clause-numbers : goal.clear_numbers-requires-clause-numbers
clear_numbers-requires-clause-numbers c =
    subst (λ (n : ℕ). AreNumbers n c.args.numbers.now) (sym (ap (λ (xs : List ℕ). length xs) c.deref_mut-2.ensures.value ∙ c.broken_by_tables-broken.ensures.full.arcs))
    (point_numbers c.args.town.now c.args.node c.args.denominator c.args.numbers.now c.requires.numbers c.requires.legal)
