-- A run, and what it keeps.
use Rattle.std.specs.Prelude.{ℕ, ◌≡◌, List}
use Rattle.wrp_tableau.specs.Systems.{System}
use Rattle.wrp_simplex.specs.Steps.{IsDualFeasible, after_steps, IsRun}
use Rattle.wrp_simplex.specs.Follows.{Follows}

-- the steps are a run from s to t
pub record IsRunFrom (s : System) (steps : List (ℕ × ℕ)) (t : System) : Type 0 where
  pub after : t ≡ after_steps s steps
  pub run : IsRun s steps
  pub follows : Follows s t
  pub dual : IsDualFeasible t
