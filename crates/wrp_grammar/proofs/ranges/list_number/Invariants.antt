use Rattle.std.proofs.Common.{◌≤◌, length}
use Rattle.std.specs.List.{list_all}
use Rattle.wrp_grammar.specs.Numbers.{is_right_part}
use Rattle.wrp_grammar.proofs.FirstNumbers.{KeepsTo}
use Rattle.wrp_grammar.proofs.ranges.list_number.Given as goal

abbrev pub invariant-loop-part : goal.invariant-loop-part
invariant-loop-part l = record { within : length l.left ≤ length l.line; keeps : KeepsTo (list_all (is_right_part l.tail)) (list_all (is_right_part l.tail)) l.line l.left }

abbrev pub decreases-loop-part : goal.decreases-loop-part
decreases-loop-part l = length l.left
