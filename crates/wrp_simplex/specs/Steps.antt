-- The dual simplex method: which row leaves, which pivot is next, and a run of pivots.
use Rattle.std.specs.Prelude.{ℕ, ◌+◌, ◌<◌, ◌≤◌, ◌≢◌, ℤ, pos, ◌*ℤ◌, ◌<ℤ◌, ◌≤ℤ◌, unsigned_abs, List, [], ◌∷◌, length, take, slice_index_or}
use Rattle.wrp_tableau.specs.Equations.{sign_of}
use Rattle.wrp_tableau.specs.Systems.{System, variables, row, basic, reduced_cost, pivoted, IsWide}

-- the entry of a row's basic variable
abbrev pub pivot_entry : System → ℕ → ℤ
pivot_entry s r = (row s r).entry (basic s r)

-- the basic value of a row is its numerator over its denominator, which isn't below 0
abbrev pub numerator : System → ℕ → ℤ
numerator s r = sign_of (pivot_entry s r) *ℤ (row s r).right

abbrev pub denominator : System → ℕ → ℕ
denominator s r = unsigned_abs (pivot_entry s r)

-- the basic value of row r is at most that of row k
abbrev pub IsAtMost : System → ℕ → ℕ → Type 0
IsAtMost s r k =
    (numerator s r *ℤ pos (denominator s k)) ≤ℤ (numerator s k *ℤ pos (denominator s r))

-- the row is there, and its basic value is below 0
pub record IsBroken (s : System) (r : ℕ) : Type 0 where
  pub there : r < length s.rows
  pub negative : numerator s r <ℤ pos 0

-- no row is broken
abbrev pub IsFeasible : System → Type 0
IsFeasible s = (r : ℕ) → IsBroken s r → ⊥

-- no reduced cost is below 0
abbrev pub IsDualFeasible : System → Type 0
IsDualFeasible s = (j : ℕ) → j < variables s → pos 0 ≤ℤ reduced_cost s j

-- from so many steps on the least basic value no longer counts
abbrev pub steps_by_value : ℕ
steps_by_value = 10000

-- row r leaves after so many steps: of the broken rows, at first of those with the least basic
-- value alone, the one whose basic variable has the least number
pub record IsLeaving (s : System) (steps r : ℕ) : Type 0 where
  pub broken : IsBroken s r
  pub least : steps < steps_by_value → (k : ℕ) → IsBroken s k → IsAtMost s r k
  pub first : (k : ℕ) → IsBroken s k → (steps < steps_by_value → IsAtMost s k r)
      → basic s r ≤ basic s k

-- a pivot in row r at column c is a dual simplex step
pub record IsDualStep (s : System) (r c : ℕ) : Type 0 where
  pub there : c < variables s
  pub entry : (row s r).entry c ≢ pos 0
  -- the basic value of the row is below 0 before it
  pub broken : IsBroken s r
  -- the value of the variable that it makes basic is above 0 after it
  pub positive : pos 0 <ℤ numerator (pivoted s r c) r
  -- and no reduced cost is below 0 after it
  pub dual : IsDualFeasible (pivoted s r c)

-- row r has no dual simplex step
abbrev pub HasNoStep : System → ℕ → Type 0
HasNoStep s r = (c : ℕ) → IsDualStep s r c → ⊥

-- column c is the least with which a pivot in row r is a dual simplex step
pub record IsEntering (s : System) (r c : ℕ) : Type 0 where
  pub dual : IsDualStep s r c
  pub first : (d : ℕ) → IsDualStep s r d → c ≤ d

-- a pivot at this row and column is the next step after so many steps
pub record IsNext (s : System) (steps : ℕ) (step : ℕ × ℕ) : Type 0 where
  pub leaving : IsLeaving s steps step.0
  pub entering : IsEntering s step.0 step.1

-- the system after these pivots
abbrev pub after_steps : System → List (ℕ × ℕ) → System
after_steps s [] = s
after_steps s (step ∷ steps) = after_steps (pivoted s step.0 step.1) steps

-- each of the steps is the next one where it is done, and none is refused as wide
pub record IsRun (s : System) (steps : List (ℕ × ℕ)) : Type 0 where
  pub next : (k : ℕ) → k < length steps
      → IsNext (after_steps s (take k steps)) k (slice_index_or steps k (0, 0))
  pub narrow : (k : ℕ) → k < length steps → IsWide (after_steps s (take (k + 1) steps)) → ⊥
