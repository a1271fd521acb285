use Rattle.std.proofs.Common.{◌≡◌, ◌<◌, ℕ, None}
use Rattle.wrp_flow.specs.Searches.{mark_at}
use Rattle.wrp_flow.proofs.reach.clear.Given as goal

-- the nodes so far have no mark
abbrev pub invariant-loop-mark : goal.invariant-loop-mark
invariant-loop-mark l = (j : ℕ) → j < l.mark-index → mark_at l.marks j ≡ None
