-- What a part of a search adds to its list.
use Rattle.std.specs.Prelude.{◌≡◌, ◌≤◌, ◌+◌, ◌*◌, ⊤, ℕ, Bool, true, false, List, ◌++◌, length}
use Rattle.std.specs.List.{All, count_by}
use Rattle.wrp_rules.specs.declared.record.Record.{Record}
use Rattle.wrp_rules.specs.declared.record.Record.TheVariants.{Tour}
use Rattle.wrp_rules.specs.Rules.{is_cut}
use Rattle.wrp_licence.specs.Causes.{cuts_of, cuts_since_split, AreCaused}
use Rattle.wrp_keep.specs.Keeps.{KeepState}

abbrev pub is_tour : Record → Bool
is_tour (Tour cost steps) = true
is_tour item = false

-- how many tours a list has
abbrev pub tours_of : List Record → ℕ
tours_of records = count_by is_tour records

-- so many records and so many tours, beside three and one for each cut
pub record IsFew (most most_tours : ℕ) (more : List Record) : Type 0 where
  pub records : length more ≤ most + 3 * cuts_of more
  pub tours : tours_of more ≤ most_tours + cuts_of more

-- each of these records that a run adds has its cause where those before have, and where what the
-- run added before is so
abbrev pub StayCaused : (List Record → Type 0) → KeepState → List Record → Type 0
StayCaused so keep more = (entry added : List Record) → keep.records ≡ entry ++ added → so added
    → AreCaused keep.town entry added → AreCaused keep.town entry (added ++ more)

-- few records are added, and each has its cause
pub record AddsWhere (so : List Record → Type 0) (most most_tours : ℕ) (old new : KeepState)
    : Type 0 where
  pub more : List Record
  pub is : new.records ≡ old.records ++ more
  pub few : IsFew most most_tours more
  pub caused : StayCaused so old more

abbrev pub Adds : ℕ → ℕ → KeepState → KeepState → Type 0
Adds most most_tours old new = AddsWhere (λ added. ⊤) most most_tours old new

-- at least so many more cuts stand then behind the last Split
pub record AddsCuts (least most most_tours : ℕ) (old new : KeepState) : Type 0 where
  pub adds : Adds most most_tours old new
  pub cuts : (added : List Record)
      → least + cuts_since_split added ≤ cuts_since_split (added ++ adds.more)

-- cuts alone are added, so many at least, and each has its cause
pub record AddsOnlyCuts (least : ℕ) (old new : KeepState) : Type 0 where
  pub more : List Record
  pub is : new.records ≡ old.records ++ more
  pub cuts : All (λ item. is_cut item ≡ true) more
  pub some : least ≤ length more
  pub caused : StayCaused (λ added. ⊤) old more
