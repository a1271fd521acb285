-- The basic solution of a system.
use Rattle.std.specs.Prelude.{ℕ, ◌<◌, ◌≡◌, ℤ, pos, ◌*ℤ◌, length, ◌⊎◌}
use Rattle.wrp_tableau.specs.Systems.{System, variables, row, basic}
use Rattle.wrp_simplex.specs.Steps.{pivot_entry}

-- variable j is basic in some row
abbrev pub IsBasic : System → ℕ → Type 0
IsBasic s j = (r : ℕ) × (r < length s.rows) × (basic s r ≡ j)

-- x over d is the basic solution: each basic variable solves its row alone, and each other
-- variable is 0
pub record IsBasicSolution (s : System) (d : ℤ) (x : ℕ → ℤ) : Type 0 where
  pub basics : (r : ℕ) → r < length s.rows
      → pivot_entry s r *ℤ x (basic s r) ≡ d *ℤ (row s r).right
  pub others : (j : ℕ) → j < variables s → IsBasic s j ⊎ (x j ≡ pos 0)
