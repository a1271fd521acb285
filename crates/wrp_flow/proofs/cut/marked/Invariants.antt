use Rattle.std.proofs.Common.{◌≡◌}
use Rattle.std.specs.List.{filter, range_with_len}
use Rattle.wrp_flow.specs.Searches.{is_marked}
use Rattle.wrp_flow.proofs.cut.marked.Given as goal

abbrev pub invariant-loop-node : goal.invariant-loop-node
invariant-loop-node l = l.set.items ≡ filter (is_marked l.marks) (range_with_len 0 l.node)
