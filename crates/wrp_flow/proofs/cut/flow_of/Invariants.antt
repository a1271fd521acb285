use Rattle.std.proofs.Common.{◌≡◌, ◌+◌, ◌*◌, pos, map, get_or}
use Rattle.std.specs.List.{range_with_len}
use Rattle.wrp_flow.proofs.cut.flow_of.Given as goal

abbrev pub invariant-loop-arc : goal.invariant-loop-arc
invariant-loop-arc l = l.flow.items ≡ map (λ a. pos (get_or l.room (2 * a + 1) 0)) (range_with_len 0 l.arc)
