-- How many bytes were taken from a source, over two reads.
use Rattle.std.proofs.Common.{ℕ, ◌+◌, ◌≤◌, List, length, arith, length-append}
use Rattle.wrp_out.specs.Outside.{Input, Took, TookAtMost}
use Rattle.wrp_out.proofs.OutsideFacts.{took_then, took_at_most}

-- a piece was taken, and then at most so many bytes
pub took_then_at_most : {old mid new : Input} {piece : List ℕ} (more most : ℕ) → Took old mid piece → TookAtMost more mid new → length piece + more ≤ most → TookAtMost most old new
took_then_at_most {old} {mid} {new} {piece} more most one two all =
    took_at_most most (took_then one two.took) (omega (arith, two.few, all, length-append piece two.piece))
