-- How a run of dual simplex steps ends.
use Rattle.std.specs.Prelude.{ℕ, ◌<◌, ◌≤◌, ◌≡◌, List, length}
use Rattle.wrp_tableau.specs.Systems.{System, pivoted, IsWide}
use Rattle.wrp_simplex.specs.declared.end.RunEnd.{RunEnd}
use Rattle.wrp_simplex.specs.declared.end.RunEnd.TheVariants as ends
use Rattle.wrp_simplex.specs.Steps.{IsBroken, IsFeasible, IsLeaving, HasNoStep, IsNext, IsRun, after_steps}

-- after so many steps of at most `limit` the leaving row has no dual simplex step
pub record IsStuck (s : System) (limit steps r : ℕ) : Type 0 where
  pub within : steps < limit
  pub leaving : IsLeaving s steps r
  pub none : HasNoStep s r

-- after so many steps of at most `limit` the next one is refused as wide
pub record IsRefused (s : System) (limit steps : ℕ) : Type 0 where
  pub within : steps < limit
  pub step : ℕ × ℕ
  pub next : IsNext s steps step
  pub wide : IsWide (pivoted s step.0 step.1)

-- the limit of steps is reached, and a row is still broken
pub record IsSpent (s : System) (limit steps : ℕ) : Type 0 where
  pub all : steps ≡ limit
  pub row : ℕ
  pub broken : IsBroken s row

-- what each end says of the system after so many steps of at most `limit`
abbrev pub EndsSo : System → ℕ → ℕ → RunEnd → Type 0
EndsSo s limit steps ends.Optimal = IsFeasible s
EndsSo s limit steps (ends.Empty row) = IsStuck s limit steps row
EndsSo s limit steps ends.Wide = IsRefused s limit steps
EndsSo s limit steps ends.Pivots = IsSpent s limit steps

-- a run of at most `limit` steps that ends so
pub record IsWholeRun (s : System) (limit : ℕ) (steps : List (ℕ × ℕ)) (end : RunEnd) : Type 0 where
  pub run : IsRun s steps
  pub within : length steps ≤ limit
  pub ends : EndsSo (after_steps s steps) limit (length steps) end
