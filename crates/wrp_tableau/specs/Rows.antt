-- Rows as they are kept, and what becomes of one where it is combined and reduced.
use Rattle.std.specs.Prelude.{ℕ, ◌^◌, ◌≤◌, ◌≡◌, ◌≢◌, ℤ, pos, [], unsigned_abs, List}
use Rattle.wrp_tableau.specs.declared.row.Row.{Row}
use Rattle.wrp_tableau.specs.Equations.{Equation, common_factor, reduced, without}
use Rattle.wrp_tableau.specs.Sparse.{IsSparse, AreBelow, dense}
use Rattle.wrp_tableau.specs.Systems.{IsWideRow}

-- the row without terms
abbrev pub empty : Row
empty = record { terms = []; right = pos 0 }

-- the equation that a row stands for
abbrev pub equation : Row → Equation
equation row = dense row.terms row.right

-- a row is sparse, and at most 2 ^ 60 in size
pub record IsStored (row : Row) : Type 0 where
  pub sparse : IsSparse (2 ^ 60) row.terms
  pub right_small : unsigned_abs row.right ≤ 2 ^ 60

-- a row over n numbers that no number above 1 divides
pub record IsPrimitive (n : ℕ) (row : Row) : Type 0 where
  pub below : AreBelow n row.terms
  pub factor : common_factor n (equation row) ≡ 1

-- the row is the equation of the terms and the right side, divided by its greatest common factor
abbrev pub IsReduced : List (ℕ × ℤ) → ℤ → Row → Type 0
IsReduced terms right row =
    (n : ℕ) → AreBelow n terms → equation row ≡ reduced n (dense terms right)

-- divided so, the equation of the terms and the right side is wide
abbrev pub IsWideReduced : List (ℕ × ℤ) → ℤ → Type 0
IsWideReduced terms right = (n : ℕ) → AreBelow n terms → IsWideRow (reduced n (dense terms right))

-- `row` without its entry at c, by means of the row `by`
abbrev pub row_without : ℕ → Row → Row → Equation
row_without c by row = without c (equation by) (equation row)

-- the equation has an entry
abbrev pub HasEntry : Equation → Type 0
HasEntry e = (j : ℕ) × (e.entry j ≢ pos 0)
