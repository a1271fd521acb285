-- What is true of each system that a start and pivots make.
use Rattle.std.specs.Prelude.{ℕ, suc, ◌<◌, ◌≤◌, ◌≡◌, ◌≢◌, pos, ◌<ℤ◌, length}
use Rattle.wrp_tableau.specs.Equations.{common_factor}
use Rattle.wrp_tableau.specs.Systems.{System, variables, row, basic}

pub record IsSound (s : System) : Type 0 where
  -- one basic variable for each row
  pub basics : length s.basics ≡ length s.rows
  -- no entries past the variables; in the cost row, past the cost
  pub in_range : (r j : ℕ) → r < length s.rows → variables s ≤ j → (row s r).entry j ≡ pos 0
  pub cost_in_range : (j : ℕ) → variables s < j → s.cost.entry j ≡ pos 0
  -- a basic variable is there, and has an entry in its own row alone
  pub named : (r : ℕ) → r < length s.rows → basic s r < variables s
  pub own : (r : ℕ) → r < length s.rows → (row s r).entry (basic s r) ≢ pos 0
  pub alone : (r k : ℕ) → r < length s.rows → k < length s.rows → k ≢ r
      → (row s k).entry (basic s r) ≡ pos 0
  pub priced : (r : ℕ) → r < length s.rows → s.cost.entry (basic s r) ≡ pos 0
  -- the scale is above 0
  pub scaled : s.cost.entry (variables s) <ℤ pos 0
  -- no number above 1 divides a whole row
  pub primitive : (r : ℕ) → r < length s.rows → common_factor (suc (variables s)) (row s r) ≡ 1
  pub cost_primitive : common_factor (suc (variables s)) s.cost ≡ 1
