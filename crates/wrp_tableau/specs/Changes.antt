-- What a pivot makes of the rows, one by one: most of them stay as they are.
use Rattle.std.specs.Prelude.{ℕ, ◌<◌, ◌≡◌, ◌≢◌, ◌==◌, if◌then◌else◌, pos, List, [], ◌∷◌, All, length, slice_index_or}
use Rattle.wrp_tableau.specs.declared.row.Row.{Row}
use Rattle.wrp_tableau.specs.declared.change.Change.{Change}
use Rattle.wrp_tableau.specs.declared.change.Change.TheVariants as change
use Rattle.wrp_tableau.specs.Equations.{Equation, reduced}
use Rattle.wrp_tableau.specs.Systems.{IsWideRow}
use Rattle.wrp_tableau.specs.Rows.{empty, equation, IsStored, IsPrimitive, row_without, HasEntry}

-- a row after a change
abbrev pub changed : Row → Change → Row
changed row change.Stays = row
changed row (change.Becomes new) = new

-- the rows after their changes
abbrev pub changed_rows : List Row → List Change → List Row
changed_rows [] changes = []
changed_rows (row ∷ rows) [] = row ∷ rows
changed_rows (row ∷ rows) (next ∷ changes) = changed row next ∷ changed_rows rows changes

abbrev pub row_at : List Row → ℕ → Row
row_at rows k = slice_index_or rows k empty

abbrev pub change_at : List Change → ℕ → Change
change_at changes k = slice_index_or changes k change.Stays

-- what row k becomes by a pivot in row r at column c
abbrev pub new_equation : ℕ → ℕ → ℕ → List Row → ℕ → Equation
new_equation n c r rows k =
    if k == r then reduced n (equation (row_at rows r))
    else reduced n (row_without c (row_at rows r) (row_at rows k))

-- the row after a change is `row` without its entry at c, reduced
abbrev pub TakesOut : ℕ → Row → Row → Change → Type 0
TakesOut c by row next = (n : ℕ) → IsPrimitive n row → IsPrimitive n by
    → equation (changed row next) ≡ reduced n (row_without c by row)

-- without its entry at c, and reduced, the row is wide
abbrev pub IsWideWithout : ℕ → Row → Row → Type 0
IsWideWithout c by row = (n : ℕ) → IsPrimitive n row → IsPrimitive n by
    → IsWideRow (reduced n (row_without c by row))

-- a pivot in row r at column c can be done: row r has an entry there, the rows are stored, and no
-- new row is without an entry
pub record CanPivot (c r : ℕ) (rows : List Row) : Type 0 where
  pub there : r < length rows
  pub own : (equation (row_at rows r)).entry c ≢ pos 0
  pub stored : All IsStored rows
  pub some : (k : ℕ) → k < length rows → k ≢ r
      → HasEntry (row_without c (row_at rows r) (row_at rows k))

-- the change is what a pivot in row r at column c makes of row k
pub record IsChangeAt (c r : ℕ) (rows : List Row) (k : ℕ) (next : Change) : Type 0 where
  pub stored : IsStored (changed (row_at rows k) next)
  pub equation : (n : ℕ) → All (IsPrimitive n) rows
      → equation (changed (row_at rows k) next) ≡ new_equation n c r rows k

-- what a pivot in row r at column c makes of row k is wide
abbrev pub IsWideAt : ℕ → ℕ → List Row → ℕ → Type 0
IsWideAt c r rows k = (n : ℕ) → All (IsPrimitive n) rows → IsWideRow (new_equation n c r rows k)

-- some new row is wide
abbrev pub IsSomeWide : ℕ → ℕ → List Row → Type 0
IsSomeWide c r rows = (k : ℕ) × (k < length rows) × IsWideAt c r rows k

-- the first i changes of a pivot in row r at column c
pub record AreChanges (c r : ℕ) (rows : List Row) (i : ℕ) (changes : List Change) : Type 0 where
  pub count : length changes ≡ i
  pub each : (k : ℕ) → k < i → IsChangeAt c r rows k (change_at changes k)
