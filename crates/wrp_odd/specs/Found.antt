-- Odd records that were found, each once.
use Rattle.std.specs.Prelude.{◌≡◌, ◌≢◌, ℕ, ◌<◌, ◌≤◌, ◌%◌, ◌==◌, not, true, List, [], ◌∷◌, ◌++◌, length, slice_index, slice_set, AllPairs}
use Rattle.std.specs.List.{All}
use Rattle.wrp_town.specs.declared.town.Town.{Town}
use Rattle.wrp_rules.specs.declared.record.Record.{Record}
use Rattle.wrp_rules.specs.declared.record.Record.TheVariants.{Odd}
use Rattle.wrp_rules.specs.Rows.{odd_row}
use Rattle.wrp_rules.specs.Sets.{crossing_demands}
use Rattle.wrp_rules.specs.Nodes.{Standing}
use Rattle.wrp_rows.specs.declared.point.Point.{Point}
use Rattle.wrp_odd.specs.declared.found.Found.{Found}
use Rattle.wrp_odd.specs.Points.{Breaks}
use Rattle.wrp_odd.specs.Cuts.{IsValidCut}

-- an odd number of demands cross the set
abbrev pub IsOddSet : Town → List ℕ → Type 0
IsOddSet town set = not (crossing_demands town set % 2 == 0) ≡ true

-- a valid Odd record that the point breaks
pub record IsBrokenOddCut (town : Town) (point : Point) (item : Record) : Type 0 where
  pub set : List ℕ
  pub odd : item ≡ Odd set
  pub valid : (s : Standing) → IsValidCut town s item
  pub broken : Breaks town point (odd_row town set)

-- the set of an Odd record
abbrev pub set_of : Record → List ℕ
set_of (Odd set) = set
set_of item = []

-- the first junction of a set, and the size of the largest set found that begins with it
abbrev pub first_of : List ℕ → ℕ
first_of set = slice_index set 0

abbrev pub largest : Found → List ℕ → ℕ
largest found set = slice_index found.longest.items (first_of set)

-- the records found so far: each once, and no set larger than the largest of its first junction
pub record IsFound (town : Town) (point : Point) (found : Found) : Type 0 where
  pub long : length found.longest.items ≡ length town.junctions
  pub broken : All (IsBrokenOddCut town point) found.records.items
  pub apart : AllPairs (λ a b. a ≢ b) found.records.items
  pub within : All (λ item. length (set_of item) ≤ largest found (set_of item)) found.records.items

-- the record of the set is there then, and the set is the largest of its first junction
pub record IsAdded (set : List ℕ) (old new : Found) : Type 0 where
  pub records : new.records.items ≡ old.records.items ++ Odd set ∷ []
  pub longest : new.longest.items ≡ slice_set old.longest.items (first_of set) (length set)

-- nothing changed
pub record IsSame (old new : Found) : Type 0 where
  pub records : new.records.items ≡ old.records.items
  pub longest : new.longest.items ≡ old.longest.items

-- the set is added where it is larger than those found that begin with its first junction
pub record GoesOn (set : List ℕ) (old new : Found) : Type 0 where
  pub larger : largest old set < length set → IsAdded set old new
  pub smaller : length set ≤ largest old set → IsSame old new
