use Rattle.std.proofs.Common.{◌≡◌, ◌&&◌, nat_le, length}
use Rattle.wrp_grammar.specs.Parts.{parts_of, are_pair_parts}
use Rattle.wrp_grammar.proofs.PairLists.{go_up}
use Rattle.wrp_grammar.proofs.parts.are_pairs_text.Given as goal

abbrev pub invariant-loop-part : goal.invariant-loop-part
invariant-loop-part l =
    go_up l.most l.low l.room (parts_of l.left) ≡ (are_pair_parts l.most (parts_of l.line) && nat_le (length (parts_of l.line)) l.few)

abbrev pub decreases-loop-part : goal.decreases-loop-part
decreases-loop-part l = length l.left
