use Rattle.std.proofs.Common.{subst}
use Rattle.wrp_town.specs.declared.town.Town.{Town}
use Rattle.wrp_euler.specs.Circuits.{AreCounts}
use Rattle.wrp_point_tour.specs.Counts.{AreFew}
use Rattle.wrp_point_tour.proofs.Circuits.{few_traversals}
use Rattle.wrp_point_tour.proofs.joining.two_pieces.Goals as goal

pub circuit-requires-clause-sum : goal.circuit-requires-clause-sum
circuit-requires-clause-sum c =
    let counts = c.args.counts.now in
    few_traversals c.args.graph.now counts
    (subst (λ (t : Town). AreCounts t counts) c.town.ensures (c.are_counts.ensures.counts c.if-not-are_counts.false))
    (subst (λ (t : Town). AreFew t counts) c.town.ensures (c.are_counts.ensures.few c.if-not-are_counts.false))
