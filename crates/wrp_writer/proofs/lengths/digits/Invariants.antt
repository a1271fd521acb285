use Rattle.std.proofs.Common.{◌≡◌, ◌+◌, ◌<◌, ◌^◌, length}
use Rattle.std.specs.Fmt.{decimal}
use Rattle.wrp_writer.proofs.lengths.digits.Given as goal

abbrev pub invariant-loop-rest : goal.invariant-loop-rest
invariant-loop-rest l = record { digits : l.count + length (decimal l.rest) ≡ length (decimal l.number) + 1; small : l.rest < 2 ^ 128 }

abbrev pub decreases-loop-rest : goal.decreases-loop-rest
decreases-loop-rest l = l.rest
