use Rattle.std.proofs.Common.{◌≤◌, length}
use Rattle.wrp_grammar.specs.Parts.{are_set_parts}
use Rattle.wrp_grammar.proofs.SetLists.{rise}
use Rattle.wrp_grammar.proofs.FirstNumbers.{KeepsTo}
use Rattle.wrp_grammar.proofs.ranges.set_number.Given as goal

abbrev pub invariant-loop-part : goal.invariant-loop-part
invariant-loop-part l = record { within : length l.left ≤ length l.line; keeps : KeepsTo are_set_parts (rise l.low) l.line l.left }

abbrev pub decreases-loop-part : goal.decreases-loop-part
decreases-loop-part l = length l.left
