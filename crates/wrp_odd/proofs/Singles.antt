-- The sets of one junction, one after the other.
use Rattle.std.proofs.Common.{◌≡◌, ◌+◌, ◌<◌, ◌≤◌, ◌∷◌, [], ℕ, Contains, length, slice_index, ◌∙◌, sym, subst, inl, inr, ◌⊎◌, arith}
use Rattle.std.proofs.lemmas.Bool.{cases_eq}
use Rattle.wrp_town.specs.declared.town.Town.{Town}
use Rattle.wrp_rules.specs.declared.record.Record.TheVariants.{Odd}
use Rattle.wrp_rules.specs.Rows.{odd_row}
use Rattle.wrp_rows.specs.declared.point.Point.{Point}
use Rattle.wrp_odd.specs.declared.found.Found.{Found}
use Rattle.wrp_odd.specs.Points.{Breaks}
use Rattle.wrp_odd.specs.Found.{IsFound, IsOddSet, GoesOn}
use Rattle.wrp_odd.proofs.ClassCuts.{IsReady}
use Rattle.wrp_odd.proofs.Finding.{found_on, kept_on, there_on, ahead_on}

-- those of the junctions below k are there, and none begins with one of the others
pub record HasSingles (town : Town) (point : Point) (k : ℕ) (records : Found) : Type 0 where
  pub found : IsFound town point records
  pub single : (j : ℕ) → j < k → IsOddSet town (j ∷ []) → Breaks town point (odd_row town (j ∷ [])) → Contains records.records.items (Odd (j ∷ []))
  pub ahead : (j : ℕ) → k ≤ j → j < length town.junctions → slice_index records.longest.items j ≡ 0

module _ (town : Town) (point : Point) (k : ℕ) (old : Found) (below : k < length town.junctions) (has : HasSingles town point k old) where
  pub single_added : (new : Found) → IsReady town point (k ∷ []) → GoesOn (k ∷ []) old new → HasSingles town point (k + 1) new
  single_added new ready on = record {
    found = found_on town point (k ∷ []) old new ready.cut ready.first has.found on;
    single = λ j less odd breaks. by j less odd breaks (cases_eq j k);
    ahead = λ j from under. ahead_on (k ∷ []) old new j on (λ e. absurd (omega arith)) ∙ has.ahead j (omega arith) under;
  }
    where
      by : (j : ℕ) → j < k + 1 → IsOddSet town (j ∷ []) → Breaks town point (odd_row town (j ∷ [])) → (j ≡ k) ⊎ (j ≡ k → ⊥) → Contains new.records.items (Odd (j ∷ []))
      by j less odd breaks (inl here) = subst (λ (i : ℕ). Contains new.records.items (Odd (i ∷ []))) (sym here) (there_on (k ∷ []) old new on (omega (arith, has.ahead k (omega arith) below)))
      by j less odd breaks (inr before) = kept_on (k ∷ []) old new on (Odd (j ∷ [])) (has.single j (omega arith) odd breaks)

  pub single_passed : (IsOddSet town (k ∷ []) → Breaks town point (odd_row town (k ∷ [])) → ⊥) → HasSingles town point (k + 1) old
  single_passed whole = record {
    found = has.found;
    single = λ j less odd breaks. by j less odd breaks (cases_eq j k);
    ahead = λ j from under. has.ahead j (omega arith) under;
  }
    where
      by : (j : ℕ) → j < k + 1 → IsOddSet town (j ∷ []) → Breaks town point (odd_row town (j ∷ [])) → (j ≡ k) ⊎ (j ≡ k → ⊥) → Contains old.records.items (Odd (j ∷ []))
      by j less odd breaks (inl here) = absurd (whole (subst (λ (i : ℕ). IsOddSet town (i ∷ [])) here odd) (subst (λ (i : ℕ). Breaks town point (odd_row town (i ∷ []))) here breaks))
      by j less odd breaks (inr before) = has.single j (omega arith) odd breaks
