-- A table of rows, of which the last may be prepared.
use Rattle.std.specs.Prelude.{◌≡◌, ℕ, ◌+◌, ◌*◌, ◌≤◌, List, [], ◌∷◌, length, drop, take, Option, None, Some}
use Rattle.std.specs.List.{All}
use Rattle.wrp_town.specs.declared.town.Town.{Town}
use Rattle.wrp_rules.specs.Rows.{base_rows}
use Rattle.wrp_rows.specs.declared.bench.Bench.{Bench}
use Rattle.wrp_rows.specs.Pools.{SparseRow, RowPool}
use Rattle.wrp_rows.specs.Sizes.{IsSmallRow}
use Rattle.wrp_rows.specs.Making.{IsBenchOf}

-- the first item, if there is one
abbrev pub first_of : {X : Type 0} → List X → Option X
first_of [] = None
first_of (x ∷ xs) = Some x

-- the first rows of the table stand, and the next one, if it is there, is prepared
abbrev pub pool_of : Town → List SparseRow → ℕ → RowPool
pool_of town table count =
    record { town = town; rows = take count table; prepared = first_of (drop count table) }

-- the greatest number of cuts
abbrev pub most_cuts : ℕ
most_cuts = 20000

-- the greatest number of rows: 2,000 junctions, 4,000 demands and those of the cuts
abbrev pub most_rows : ℕ
most_rows = 26000

-- at most one row is prepared, the rows are small, and the bench is that of the town
pub record IsStore (town : Town) (table : List SparseRow) (count base : ℕ) (bench : Bench)
    : Type 0 where
  pub counted : count ≤ length table
  pub one_more : length table ≤ count + 1
  pub few : length table ≤ base + most_cuts
  pub base_count : base ≡ length (base_rows town)
  pub small : All (IsSmallRow (2 * length town.streets)) table
  pub room : IsBenchOf town bench
