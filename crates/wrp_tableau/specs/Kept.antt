-- How a tableau is kept: as sparse rows. A value in a contract can hold no function, so contracts
-- see the sparse rows, and `system` is what they stand for.
use Rattle.std.specs.Prelude.{ℕ, suc, ◌<◌, ◌≡◌, ◌^◌, List, length, map, All, slice_set}
use Rattle.wrp_tableau.specs.declared.row.Row.{Row}
use Rattle.wrp_tableau.specs.Systems.{System, variables, pivoted}
use Rattle.wrp_tableau.specs.Soundness.{IsSound}
use Rattle.wrp_tableau.specs.Rows.{equation, IsStored}
use Rattle.wrp_tableau.specs.declared.change.Change.{Change}
use Rattle.wrp_tableau.specs.Changes.{changed, changed_rows}

pub record SparseSystem : Type 0 where
  pub width : ℕ
  pub rows : List Row
  pub basics : List ℕ
  pub cost : Row

-- the system that sparse rows stand for
abbrev pub system : SparseSystem → System
system s = record {
  width = s.width;
  rows = map equation s.rows;
  basics = s.basics;
  cost = equation s.cost;
}

-- what is true of each tableau
pub record IsKept (s : SparseSystem) : Type 0 where
  pub sound : IsSound (system s)
  pub rows_stored : All IsStored s.rows
  pub cost_stored : IsStored s.cost
  -- the variables and the cost have numbers of 32 bits
  pub numbered : suc (variables (system s)) < 2 ^ 32

-- what the changes of a pivot in row r at column c make of a tableau
abbrev pub pivoted_by : SparseSystem → ℕ → ℕ → List Change → Change → SparseSystem
pivoted_by s r c changes cost = record {
  width = s.width;
  rows = changed_rows s.rows changes;
  basics = slice_set s.basics r c;
  cost = changed s.cost cost;
}

-- the changes are those of a pivot in row r at column c
pub record IsPivot (s : SparseSystem) (r c : ℕ) (changes : List Change) (cost : Change)
    : Type 0 where
  pub count : length changes ≡ length s.rows
  pub rows_stored : All IsStored (changed_rows s.rows changes)
  pub cost_stored : IsStored (changed s.cost cost)
  pub pivoted : system (pivoted_by s r c changes cost) ≡ pivoted (system s) r c
