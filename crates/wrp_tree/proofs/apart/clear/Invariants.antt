use Rattle.std.proofs.Common.{◌≡◌, ℕ, ◌<◌, false}
use Rattle.wrp_rows.specs.Marks.{is_marked}
use Rattle.wrp_tree.proofs.apart.clear.Given as goal

-- the junctions so far are not marked
abbrev pub invariant-loop-mark : goal.invariant-loop-mark
invariant-loop-mark l = (i : ℕ) → i < l.mark-index → is_marked l.marks i ≡ false
