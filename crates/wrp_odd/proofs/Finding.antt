-- The records found so far, and one more.
use Rattle.std.proofs.Common.{◌≡◌, ◌≢◌, ℕ, zero, suc, ◌<◌, ◌≤◌, List, [], ◌∷◌, length, slice_index, slice_set, AllPairs, Contains, get_or, ap, refl, sym, ◌∙◌, subst, inl, inr, ◌⊎◌, arith}
use Rattle.std.specs.List.{All}
use Rattle.std.proofs.lemmas.Bool.{cases_lt, cases_eq}
use Rattle.std.proofs.lemmas.List.{get_or-set_same, get_or-set_other}
use Rattle.std.proofs.Math.ListN.{length-set}
use Rattle.std.proofs.lemmas.List.Elements.{All-append, Contains-append_left, Contains-append_right}
use Rattle.std.proofs.lemmas.List.Quantifiers.{all_pairs_push}
use Rattle.wrp_town.proofs.Members.{inside_head}
use Rattle.wrp_town.specs.declared.town.Town.{Town}
use Rattle.wrp_rules.specs.declared.record.Record.{Record}
use Rattle.wrp_rules.specs.declared.record.Record.TheVariants.{Odd}
use Rattle.wrp_rows.specs.declared.point.Point.{Point}
use Rattle.wrp_odd.specs.declared.found.Found.{Found}
use Rattle.wrp_odd.specs.Found.{IsBrokenOddCut, set_of, first_of, largest, IsFound, IsAdded, IsSame, GoesOn}

-- ---- one item more

all_one : {X : Type 0} (P : X → Type 0) (x : X) → P x → All P (x ∷ [])
all_one P x holds zero d below = holds
all_one P x holds (suc k) d below = absurd (omega arith)

-- ---- one record more

module _ (town : Town) (point : Point) (set : List ℕ) (old new : Found) (first : first_of set < length town.junctions) (larger : largest old set < length set) (is : IsFound town point old) (added : IsAdded set old new) where
  largest_here : (other : List ℕ) → first_of other ≡ first_of set → largest new other ≡ length set
  largest_here other same =
      ap (λ (xs : List ℕ). slice_index xs (first_of other)) added.longest ∙ ap (slice_index (slice_set old.longest.items (first_of set) (length set))) same
      ∙ get_or-set_same old.longest.items (first_of set) (length set) 0 (omega (arith, is.long))

  largest_there : (other : List ℕ) → (first_of other ≡ first_of set → ⊥) → largest new other ≡ largest old other
  largest_there other differs =
      ap (λ (xs : List ℕ). slice_index xs (first_of other)) added.longest ∙ get_or-set_other old.longest.items (first_of set) (first_of other) (length set) 0 differs

  still_within : (other : List ℕ) → length other ≤ largest old other → (first_of other ≡ first_of set) ⊎ (first_of other ≡ first_of set → ⊥) → length other ≤ largest new other
  still_within other most (inl same) = omega (arith, largest_here other same, ap (slice_index old.longest.items) same)
  still_within other most (inr differs) = omega (arith, largest_there other differs)

  differs_from : (item : Record) → length (set_of item) ≤ largest old (set_of item) → item ≡ Odd set → ⊥
  differs_from item most same = absurd (omega (arith, ap (λ (r : Record). length (set_of r)) same, ap (λ (r : Record). largest old (set_of r)) same))

  pub found_added : IsBrokenOddCut town point (Odd set) → IsFound town point new
  found_added cut = record {
    long = ap (λ (xs : List ℕ). length xs) added.longest ∙ length-set old.longest.items (first_of set) (length set) ∙ is.long;
    broken = subst (All (IsBrokenOddCut town point)) (sym added.records) (All-append (IsBrokenOddCut town point) old.records.items (Odd set ∷ []) is.broken (all_one (IsBrokenOddCut town point) (Odd set) cut));
    apart = subst (AllPairs (λ (a b : Record). a ≢ b)) (sym added.records)
        (all_pairs_push (λ (a b : Record). a ≢ b) old.records.items (Odd set) is.apart (λ k d below. differs_from (get_or old.records.items k d) (is.within k d below)));
    within = subst (All (λ item. length (set_of item) ≤ largest new (set_of item))) (sym added.records)
        (All-append (λ item. length (set_of item) ≤ largest new (set_of item)) old.records.items (Odd set ∷ [])
        (λ k d below. still_within (set_of (get_or old.records.items k d)) (is.within k d below) (cases_eq (first_of (set_of (get_or old.records.items k d))) (first_of set)))
        (all_one (λ item. length (set_of item) ≤ largest new (set_of item)) (Odd set) (omega (arith, largest_here set refl))));
  }

pub found_same : (town : Town) (point : Point) (old new : Found) → IsFound town point old → IsSame old new → IsFound town point new
found_same town point old new is same = record {
  long = ap (λ (xs : List ℕ). length xs) same.longest ∙ is.long;
  broken = subst (All (IsBrokenOddCut town point)) (sym same.records) is.broken;
  apart = subst (AllPairs (λ (a b : Record). a ≢ b)) (sym same.records) is.apart;
  within = subst (All (λ item. length (set_of item) ≤ slice_index new.longest.items (first_of (set_of item)))) (sym same.records)
      (subst (λ (longest : List ℕ). All (λ item. length (set_of item) ≤ slice_index longest (first_of (set_of item))) old.records.items) (sym same.longest) is.within);
}

pub found_on : (town : Town) (point : Point) (set : List ℕ) (old new : Found) → IsBrokenOddCut town point (Odd set) → first_of set < length town.junctions
    → IsFound town point old → GoesOn set old new → IsFound town point new
found_on town point set old new cut first is on =
    elim (cases_lt (largest old set) (length set)) [
      | inl larger ↦ found_added town point set old new first larger is (on.larger larger) cut
      | inr smaller ↦ found_same town point old new is (on.smaller smaller)
    ]

-- what was there stays
pub kept_on : (set : List ℕ) (old new : Found) → GoesOn set old new → (item : Record) → Contains old.records.items item → Contains new.records.items item
kept_on set old new on item inside =
    elim (cases_lt (largest old set) (length set)) [
      | inl larger ↦ subst (λ (xs : List Record). Contains xs item) (sym (on.larger larger).records) (Contains-append_left old.records.items (Odd set ∷ []) item inside)
      | inr smaller ↦ subst (λ (xs : List Record). Contains xs item) (sym (on.smaller smaller).records) inside
    ]

-- and a set that is larger is there
pub there_on : (set : List ℕ) (old new : Found) → GoesOn set old new → largest old set < length set → Contains new.records.items (Odd set)
there_on set old new on larger =
    subst (λ (xs : List Record). Contains xs (Odd set)) (sym (on.larger larger).records) (Contains-append_right old.records.items (Odd set ∷ []) (Odd set) (inside_head (Odd set) []))

-- the largest of another first junction stays
pub ahead_on : (set : List ℕ) (old new : Found) (j : ℕ) → GoesOn set old new → (j ≡ first_of set → ⊥) → slice_index new.longest.items j ≡ slice_index old.longest.items j
ahead_on set old new j on differs =
    elim (cases_lt (largest old set) (length set)) [
      | inl larger ↦ ap (λ (xs : List ℕ). slice_index xs j) (on.larger larger).longest ∙ get_or-set_other old.longest.items (first_of set) j (length set) 0 differs
      | inr smaller ↦ ap (λ (xs : List ℕ). slice_index xs j) (on.smaller smaller).longest
    ]
