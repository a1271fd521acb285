-- Candidates that are gathered, row after row.
use Rattle.std.proofs.Common.{◌≡◌, ℕ, ◌+◌, List, [], ◌∷◌, ◌++◌, length, Contains, below_more, sym, subst, arith}
use Rattle.std.specs.List.{All}
use Rattle.std.specs.List.Sorted.{IsPermutation}
use Rattle.std.proofs.lemmas.List.{map-append, length-map}
use Rattle.std.proofs.lemmas.List.Elements.{All-push, All-nil, Contains-push, Contains-append_left}
use Rattle.std.proofs.lemmas.List.Sorted.{IsPermutation-map, All-permutation, Contains-permutation}
use Rattle.wrp_town.specs.declared.town.Town.{Town}
use Rattle.wrp_rules.specs.declared.record.Record.{Record}
use Rattle.wrp_rules.specs.Nodes.{Standing}
use Rattle.wrp_rows.specs.declared.point.Point.{Point}
use Rattle.wrp_tableau.specs.Systems.{System}
use Rattle.wrp_tableau.specs.Rows.{equation}
use Rattle.wrp_tableau.specs.Kept.{SparseSystem, system}
use Rattle.wrp_round.specs.declared.candidates.Candidate.{Candidate}
use Rattle.wrp_round.specs.Roundings.{NamesRounding, rounding_of}
use Rattle.wrp_round.specs.Broken.{IsBrokenRounding, AreFound}
use Rattle.wrp_round.specs.Gathering.{records_of, IsGathered, IsAdded, IsRowAdded}

module _ (town : Town) (s : Standing) (point : Point) where
  pub added_same : (item : Record) (old : List Candidate) → (IsBrokenRounding town s point item → ⊥) → IsAdded town s point item old old
  added_same item old none = record { broken = λ all. all; kept = λ other inside. inside; found = λ broken. absurd (none broken) }

  pub added_push : (item : Record) (old : List Candidate) (c : Candidate) → c.item ≡ item → IsBrokenRounding town s point item → IsAdded town s point item old (old ++ c ∷ [])
  added_push item old c is broken =
      let all : records_of (old ++ c ∷ []) ≡ records_of old ++ c.item ∷ [] = map-append (λ (x : Candidate). x.item) old (c ∷ []) in
      record {
        broken = λ before. subst (λ (xs : List Record). All (IsBrokenRounding town s point) xs) (sym all)
            (All-push (IsBrokenRounding town s point) (records_of old) c.item before (subst (IsBrokenRounding town s point) (sym is) broken));
        kept = λ other inside. subst (λ (xs : List Record). Contains xs other) (sym all) (Contains-append_left (records_of old) (c.item ∷ []) other inside);
        found = λ again. subst (λ (xs : List Record). Contains xs item) (sym all) (subst (λ (x : Record). Contains (records_of old ++ c.item ∷ []) x) is (Contains-push (records_of old) c.item));
      }

  module _ (table : System) (chosen : List ℕ) where
    pub row_added : (r : ℕ) (item : Record) (old new : List Candidate) → item ≡ rounding_of table chosen r → IsAdded town s point item old new → IsRowAdded town s point table chosen r old new
    row_added r item old new is added = record {
      broken = added.broken;
      kept = added.kept;
      named = λ names broken. subst (λ (x : Record). Contains (records_of new) x) is (added.found (subst (IsBrokenRounding town s point) (sym is) broken));
    }

    pub row_same : (r : ℕ) (old : List Candidate) → (NamesRounding table r → ⊥) → IsRowAdded town s point table chosen r old old
    row_same r old none = record { broken = λ all. all; kept = λ other inside. inside; named = λ names broken. absurd (none names) }

    pub gathered_none : IsGathered town s point table chosen 0 []
    gathered_none = record { broken = All-nil (IsBrokenRounding town s point); named = λ r below. absurd (omega arith) }

    pub gathered_more : (n : ℕ) (old new : List Candidate) → IsGathered town s point table chosen n old → IsRowAdded town s point table chosen n old new → IsGathered town s point table chosen (n + 1) new
    gathered_more n old new so_far added = record {
      broken = added.broken so_far.broken;
      named = below_more (λ r. NamesRounding table r → IsBrokenRounding town s point (rounding_of table chosen r) → Contains (records_of new) (rounding_of table chosen r)) n
          (λ r below names broken. added.kept (rounding_of table chosen r) (so_far.named r below names broken)) added.named;
    }

  -- ---- the records in another order

  module _ (table : SparseSystem) (chosen : List ℕ) (found sorted : List Candidate) (records : List Record) (moved : IsPermutation found sorted) (are : records ≡ records_of sorted)
      (all : IsGathered town s point (system table) chosen (length table.rows) found) where
    records_moved : IsPermutation (records_of found) (records_of sorted)
    records_moved = IsPermutation-map (λ (x : Candidate). x.item) found sorted moved

    pub sorted_broken : All (IsBrokenRounding town s point) records
    sorted_broken = subst (λ (xs : List Record). All (IsBrokenRounding town s point) xs) (sym are)
        (All-permutation (IsBrokenRounding town s point) (records_of found) (records_of sorted) records_moved all.broken)

    pub sorted_named : AreFound town s point (system table) chosen records
    sorted_named r names broken =
        subst (λ (xs : List Record). Contains xs (rounding_of (system table) chosen r)) (sym are)
        (Contains-permutation (records_of found) (records_of sorted) (rounding_of (system table) chosen r) records_moved
        (all.named r (omega (arith, names.there, length-map table.rows equation)) names broken))
