use Rattle.std.proofs.Common.{◌≤◌, ◌-◌, length, max}
use Rattle.std.specs.Vec.{vec_capacity}
use Rattle.wrp_disk.proofs.steady.fill_gap.Given as goal

abbrev pub invariant-loop-bytes : goal.invariant-loop-bytes
invariant-loop-bytes l = record {
  size : length l.bytes.items ≤ max (length l.initial.bytes.items) l.at;
  capacity : vec_capacity l.initial.bytes ≤ vec_capacity l.bytes;
}

abbrev pub decreases-loop-bytes : goal.decreases-loop-bytes
decreases-loop-bytes l = l.at - length l.bytes.items
