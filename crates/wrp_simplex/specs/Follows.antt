-- What pivots keep of a system.
use Rattle.std.specs.Prelude.{ℕ, suc, ◌<◌, ◌≡◌, ℤ, List, length}
use Rattle.wrp_tableau.specs.Systems.{System, variables, row}
use Rattle.wrp_tableau.specs.Solutions.{Solves, HaveSameSolutions, HasCosts}
use Rattle.wrp_tableau.specs.Soundness.{IsSound}

-- x over d solves each equation and the cost row, with the cost as number `variables s`
pub record IsCostSolution (s : System) (d : ℤ) (x : ℕ → ℤ) : Type 0 where
  pub rows : (r : ℕ) → r < length s.rows → Solves (suc (variables s)) d x (row s r)
  pub cost : Solves (suc (variables s)) d x s.cost

-- the system has the variables, the number of rows, the solutions and the costs of another, as
-- after pivots
pub record Follows (s t : System) : Type 0 where
  pub sound : IsSound t
  pub width : t.width ≡ s.width
  pub rows : length t.rows ≡ length s.rows
  pub solutions : HaveSameSolutions s t
  pub costs : (costs : List ℤ) → HasCosts costs s → HasCosts costs t
  -- with the cost as a number, too
  pub with_cost : (d : ℤ) (x : ℕ → ℤ) → IsCostSolution s d x → IsCostSolution t d x
