use Rattle.std.proofs.Common.{◌≡◌, ◌<◌, ◌∙◌, sym, refl, arith, length, get_or}
use Rattle.std.proofs.lemmas.Bool.{eqb-true, eqb-false}
use Rattle.std.proofs.lemmas.List.{nil_from_length}
use Rattle.std.proofs.lemmas.List.Elements.{Contains-get_or}
use Rattle.wrp_tour.specs.declared.plain.Round.{Round}
use Rattle.wrp_tour.proofs.Rounds.{component_of, home_of, base_below, tour_without, round_begins, tour_closed_by}
use Rattle.wrp_tour.proofs.plain.tour_within.Goals as goal

pub returns-then-is_empty : goal.returns-then-is_empty
returns-then-is_empty c =
    tour_without c.args.graph.now c.args.part.now c.new.result c.requires (nil_from_length c.args.part.now (eqb-true _ 0 (sym c.is_empty.ensures ∙ c.if-is_empty.true))) c.new.ensures

pub serve_all-requires-clause-round : goal.serve_all-requires-clause-round
serve_all-requires-clause-round c =
    let part = c.args.part.now in
    let some : (length part ≡ 0 → ⊥) = eqb-false _ 0 (sym c.is_empty.ensures ∙ c.if-is_empty.false) in
    let long : 0 < length part = omega arith in
    let base = get_or part 0 0 in
    let start : Round = record { base = base; steps = c.new-2.result; at = base } in
    round_begins c.args.graph.now start base refl refl c.new-2.ensures.items (base_below c.args.graph.now part base (component_of c.args.graph.now part c.requires long) (Contains-get_or part 0 0 long))

pub serve_all-requires-clause-home : goal.serve_all-requires-clause-home
serve_all-requires-clause-home c =
    let part = c.args.part.now in
    let some : (length part ≡ 0 → ⊥) = eqb-false _ 0 (sym c.is_empty.ensures ∙ c.if-is_empty.false) in
    let long : 0 < length part = omega arith in
    home_of c.args.graph.now part (get_or part 0 0) (component_of c.args.graph.now part c.requires long) (Contains-get_or part 0 0 long)

pub returns : goal.returns
returns c =
    tour_closed_by c.args.graph.now c.serve_all.new.self c.walk_to.new.self c.from_vec.result c.in_ok-walk_to.ensures.on
    (c.in_ok-walk_to.ensures.at ∙ sym (c.in_ok-walk_to.ensures.on.base ∙ c.in_ok-serve_all.ensures.on.base)) c.from_vec.ensures c.in_ok-serve_all.ensures.served
