use Rattle.std.proofs.Common.{◌≡◌, ℕ, ◌<◌, pos}
use Rattle.wrp_rules.specs.Rows.{balance_row}
use Rattle.wrp_laws.specs.Meets.{sum_of_counts}
use Rattle.wrp_odd.specs.Points.{numbers_of}
use Rattle.wrp_trials.proofs.points.are_even.Given as goal

-- the junctions so far are even
abbrev pub invariant-loop-j : goal.invariant-loop-j
invariant-loop-j l = (j : ℕ) → j < l.j → sum_of_counts l.town (numbers_of l.point) (balance_row l.town j).coef ≡ pos 0
