-- Where a number stands, or would stand, among ascending terms.
use Rattle.std.specs.Prelude.{ℕ, ◌<◌, ◌≤◌, ℤ, List, length}
use Rattle.wrp_tableau.specs.Sparse.{number_at}

-- the terms before the place have lesser numbers, and those from it on have none
pub record IsPlace (terms : List (ℕ × ℤ)) (at number : ℕ) : Type 0 where
  pub within : at ≤ length terms
  pub before : (k : ℕ) → k < at → number_at terms k < number
  pub behind : (k : ℕ) → at ≤ k → k < length terms → number ≤ number_at terms k
