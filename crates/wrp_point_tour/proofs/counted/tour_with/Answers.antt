use Rattle.std.proofs.Common.{ap, sym, ◌∙◌}
use Rattle.std.proofs.lemmas.Bool.{true≢false}
use Rattle.wrp_town.specs.declared.town.Town.{Town}
use Rattle.wrp_town.specs.Walks.{is_tour}
use Rattle.wrp_point_tour.proofs.Circuits.{few_traversals, circuit_lean, circuit_is_tour}
use Rattle.wrp_point_tour.proofs.counted.tour_with.Goals as goal

pub circuit-requires-clause-sum : goal.circuit-requires-clause-sum
circuit-requires-clause-sum c = few_traversals c.args.graph.now c.args.counts.now c.requires.counts c.requires.few

pub returns-then-is_tour-clause-lean : goal.returns-then-is_tour-clause-lean
returns-then-is_tour-clause-lean c =
    let steps = c.in-Ok.steps in
    let tested = c.is_tour.ensures ∙ ap (λ (t : Town). is_tour t c.as_slice.result.now) c.town.ensures ∙ ap (is_tour c.args.graph.now) c.as_slice.ensures in
    circuit_lean c.args.graph.now c.args.counts.now steps c.requires.few c.in-Ok.ensures.circuit (sym tested ∙ c.if-is_tour.true)

pub returns-else-is_tour-clause-found : goal.returns-else-is_tour-clause-found
returns-else-is_tour-clause-found c = λ balanced one_piece served.
    let steps = c.in-Ok.steps in
    let tested = c.is_tour.ensures ∙ ap (λ (t : Town). is_tour t c.as_slice.result.now) c.town.ensures ∙ ap (is_tour c.args.graph.now) c.as_slice.ensures in
    absurd (true≢false (sym (circuit_is_tour c.args.graph.now c.args.counts.now steps served c.in-Ok.ensures.circuit) ∙ sym tested ∙ c.if-is_tour.false))
