use Rattle.std.proofs.Common.{◌≡◌, ℕ, ◌<◌, pos}
use Rattle.wrp_rows.specs.Tables.{number_at}
use Rattle.wrp_rows.proofs.combine.clear.Given as goal

-- the sums so far are 0
abbrev pub invariant-loop-sum : goal.invariant-loop-sum
invariant-loop-sum l = (arc : ℕ) → arc < l.sum-index → number_at l.sums arc ≡ pos 0
