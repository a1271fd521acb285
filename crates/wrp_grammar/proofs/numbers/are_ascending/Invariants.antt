use Rattle.std.proofs.Common.{◌≡◌, length}
use Rattle.wrp_grammar.specs.Parts.{parts_of, are_set_parts}
use Rattle.wrp_grammar.proofs.SetLists.{rise}
use Rattle.wrp_grammar.proofs.numbers.are_ascending.Given as goal

abbrev pub invariant-loop-part : goal.invariant-loop-part
invariant-loop-part l = rise l.low (parts_of l.left) ≡ are_set_parts (parts_of l.line)

abbrev pub decreases-loop-part : goal.decreases-loop-part
decreases-loop-part l = length l.left
