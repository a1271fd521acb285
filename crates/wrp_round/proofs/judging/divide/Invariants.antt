use Rattle.std.proofs.Common.{◌≡◌, ℕ, ◌<◌, ◌≤◌}
use Rattle.wrp_sums.specs.Rounding as rounding
use Rattle.wrp_rows.specs.Tables.{number_at}
use Rattle.wrp_round.proofs.judging.divide.Given as goal

-- the sums so far are divided, and the others are as they were
abbrev pub invariant-loop-sum : goal.invariant-loop-sum
invariant-loop-sum l = record {
  done : (arc : ℕ) → arc < l.sum-index → number_at l.sums arc ≡ rounding.ceil_div (number_at l.initial.sums arc) l.divisor;
  left : (arc : ℕ) → l.sum-index ≤ arc → number_at l.sums arc ≡ number_at l.initial.sums arc;
}
