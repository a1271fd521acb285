-- Records that are offered to the list of a search.
use Rattle.std.specs.Prelude.{◌≡◌, ◌⊎◌, ◌≤◌, ℕ, Bool, true, false, [], ◌∷◌, ◌++◌, List, Option, None, Some}
use Rattle.wrp_town.specs.declared.street.Step.{Step}
use Rattle.wrp_rules.specs.declared.record.Record.{Record}
use Rattle.wrp_rules.specs.declared.record.Record.TheVariants.{Tour}
use Rattle.wrp_keep.specs.Keeps.{KeepState, broken_by}
use Rattle.wrp_engine.specs.Searches.{now}

-- the record joined the list; or it breaks a rule, and the list is as before
abbrev pub Offers : Record → KeepState → KeepState → Bool → Type 0
Offers item old new true = (broken_by item old ≡ None) × (new.records ≡ old.records ++ item ∷ [])
Offers item old new false = (broken_by item old ≡ None → ⊥) × (new.records ≡ old.records)

-- either
abbrev pub IsOffered : Record → KeepState → KeepState → Type 0
IsOffered item old new = (joined : Bool) × Offers item old new joined

-- the record joined the list
abbrev pub Joins : Record → KeepState → KeepState → Type 0
Joins item old new = new.records ≡ old.records ++ item ∷ []

-- it did, or the list is as before
abbrev pub AddsAtMost : Record → KeepState → KeepState → Type 0
AddsAtMost item old new = Joins item old new ⊎ (new.records ≡ old.records)

-- the same for a record that may be missing
abbrev pub AddsAtMostSome : Option Record → KeepState → KeepState → Type 0
AddsAtMostSome None old new = new.records ≡ old.records
AddsAtMostSome (Some item) old new = AddsAtMost item old new

-- a tour joined the list, or it is as before
abbrev pub AddsTourAtMost : KeepState → KeepState → Type 0
AddsTourAtMost old new =
    ((cost : ℕ) × (steps : List Step) × Joins (Tour cost steps) old new)
    ⊎ (new.records ≡ old.records)

abbrev pub OffersSome : Option Record → KeepState → KeepState → Bool → Type 0
OffersSome None old new joined = (joined ≡ false) × (new.records ≡ old.records)
OffersSome (Some item) old new joined = Offers item old new joined

-- a tour of at most this cost stands
abbrev pub HasUpper : ℕ → KeepState → Type 0
HasUpper cost keep = (upper : ℕ) × ((now keep).upper ≡ Some upper) × (upper ≤ cost)
