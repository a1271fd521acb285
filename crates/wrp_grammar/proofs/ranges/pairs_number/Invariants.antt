use Rattle.std.proofs.Common.{◌≤◌, length}
use Rattle.wrp_grammar.specs.Numbers.{are_few_pairs}
use Rattle.wrp_grammar.proofs.PairLists.{go_up}
use Rattle.wrp_grammar.proofs.FirstNumbers.{KeepsTo}
use Rattle.wrp_grammar.proofs.ranges.pairs_number.Given as goal

abbrev pub invariant-loop-part : goal.invariant-loop-part
invariant-loop-part l = record { within : length l.left ≤ length l.line; keeps : KeepsTo (are_few_pairs l.most l.fn.room) (go_up l.most l.low l.room) l.line l.left }

abbrev pub decreases-loop-part : goal.decreases-loop-part
decreases-loop-part l = length l.left
