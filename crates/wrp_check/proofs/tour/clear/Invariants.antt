use Rattle.std.proofs.Common.{◌≡◌, ℕ, ◌<◌, false, true, get_or}
use Rattle.wrp_check.proofs.tour.clear.Given as goal

abbrev pub invariant-loop-mark : goal.invariant-loop-mark
invariant-loop-mark l = (arc : ℕ) → arc < l.mark-index → get_or l.used arc true ≡ false
