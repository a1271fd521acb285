use Rattle.std.proofs.Common.{◌+◌, length}
use Rattle.wrp_parts.specs.Traversal.{without_part}
use Rattle.wrp_parts.proofs.Spreading.{IsSpreading}
use Rattle.wrp_parts.proofs.traversal.spread.Given as goal

-- the part has spread over what was reached so far
abbrev pub invariant-loop-j : goal.invariant-loop-j
invariant-loop-j l = IsSpreading l.rows l.root l.part l.fn.of l.of l.stack.items

-- each junction is put on the stack once
abbrev pub decreases-loop-j : goal.decreases-loop-j
decreases-loop-j l = without_part l.of + length l.stack.items
