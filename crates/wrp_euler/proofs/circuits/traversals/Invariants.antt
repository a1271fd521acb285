use Rattle.std.proofs.Common.{◌≡◌, take, slice_index}
use Rattle.std.specs.List.{sum_by}
use Rattle.wrp_euler.proofs.circuits.traversals.Given as goal

abbrev pub invariant-loop-arc : goal.invariant-loop-arc
invariant-loop-arc l = l.total ≡ sum_by (slice_index l.counts) (take l.arc-index l.arcs)
