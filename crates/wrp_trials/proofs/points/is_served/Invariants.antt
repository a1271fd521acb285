use Rattle.std.proofs.Common.{ℕ, ◌<◌}
use Rattle.wrp_trials.proofs.Served.{IsServed}
use Rattle.wrp_trials.proofs.points.is_served.Given as goal

-- the streets so far have enough
abbrev pub invariant-loop-s : goal.invariant-loop-s
invariant-loop-s l = (s : ℕ) → s < l.s → IsServed l.town l.point s
