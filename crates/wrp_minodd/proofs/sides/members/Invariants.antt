use Rattle.std.proofs.Common.{◌≡◌, filter}
use Rattle.std.specs.List.{range_with_len}
use Rattle.wrp_minodd.specs.Looks.{inner}
use Rattle.wrp_minodd.proofs.sides.members.Given as goal

-- the members so far
abbrev pub invariant-loop-j : goal.invariant-loop-j
invariant-loop-j l = l.set ≡ filter (inner l.labels) (range_with_len 0 l.j)
