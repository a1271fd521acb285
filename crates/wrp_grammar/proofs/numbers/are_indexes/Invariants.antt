use Rattle.std.proofs.Common.{◌≡◌, length}
use Rattle.std.specs.List.{list_all}
use Rattle.wrp_grammar.specs.Parts.{parts_of, is_index_part}
use Rattle.wrp_grammar.proofs.numbers.are_indexes.Given as goal

abbrev pub invariant-loop-part : goal.invariant-loop-part
invariant-loop-part l = list_all is_index_part (parts_of l.left) ≡ list_all is_index_part (parts_of l.line)

abbrev pub decreases-loop-part : goal.decreases-loop-part
decreases-loop-part l = length l.left
