-- Sums of rows times multipliers, one term and one row after another.
use Rattle.std.proofs.Common.{◌≡◌, ℕ, ◌+◌, ◌<◌, ◌≤◌, ◌^◌, ◌≢◌, Bool, true, false, cond, ◌==◌, ℤ, pos, ◌+ℤ◌, ◌*ℤ◌, unsigned_abs, List, length, get_or, take, set, ap, refl, sym, ◌∙◌, subst, arith, eq-eqb, get_or-set_other, get_or-set_same}
use Rattle.std.specs.Prelude.{nat_le, nat_lt}
use Rattle.std.specs.List.{All, list_all}
use Rattle.std.proofs.lemmas.Bool.{and_parts, eqb-true, eqb-false, ne_eqb, leb-true, ltb-true}
use Rattle.std.proofs.lemmas.List.{length-take-le}
use Rattle.std.proofs.lemmas.List.Elements.{All-take}
use Rattle.wrp_sums.specs.Sums.{coef_at}
use Rattle.wrp_sums.specs.Duality.{combine_rows}
use Rattle.wrp_sums.proofs.Integers.{linear, sized, size_of_product, *ℤ-+ℤ, times_zero}
use Rattle.wrp_sums.proofs.SparseRows.{coef_at_more, size_of_coef_at, ascending_take}
use Rattle.wrp_sums.proofs.SumsOver.{sum_over_more}
use Rattle.wrp_town.proofs.Lists.{list_all-at}
use Rattle.wrp_rules.specs.Rows.{most_coefficient}
use Rattle.wrp_rules.specs.Ranges.{is_from_one, are_multipliers, are_pairs, most_multipliers}
use Rattle.wrp_rows.specs.Pools.{SparseRow, sparse_at}
use Rattle.wrp_rows.specs.Sizes.{AreSmallTerms}
use Rattle.wrp_rows.specs.Tables.{number_at, AreAdded, IsScaled, name_rows, AreCombined}

-- what holds of each number after one was written: of the new one at its place, of the others as they were
pub at_each : (P : ℕ → ℤ → Type 0) (xs : List ℤ) (i : ℕ) (z : ℤ) → i < length xs → P i z → ((j : ℕ) → j ≢ i → P j (number_at xs j)) → (j : ℕ) → P j (number_at (set xs i z) j)
at_each P xs i z inside here there j = by (j == i) refl
  where
    by : (t : Bool) → (j == i) ≡ t → P j (number_at (set xs i z) j)
    by true e =
        let same : j ≡ i = eqb-true j i e in
        subst (λ k. P k (number_at (set xs i z) k)) (sym same) (subst (P i) (sym (get_or-set_same xs i z (pos 0) inside)) here)
    by false e =
        let differs : j ≢ i = eqb-false j i e in
        subst (P j) (sym (get_or-set_other xs i j z (pos 0) differs)) (there j differs)

-- ---- one term after another

module _ (terms : List (ℕ × ℤ)) (weight j : ℕ) (below : j < length terms) where
  abbrev term : ℕ × ℤ
  term = get_or terms j (0, pos 0)

  -- the weighted coefficient of an arc, after the term at place j
  share_more : (arc : ℕ) → pos weight *ℤ coef_at (take (j + 1) terms) arc ≡ pos weight *ℤ coef_at (take j terms) arc +ℤ pos weight *ℤ cond (term.0 == arc) term.1 (pos 0)
  share_more arc =
      ap (λ (z : ℤ). pos weight *ℤ z) (coef_at_more terms arc j (0, pos 0) below)
      ∙ *ℤ-+ℤ (pos weight) (coef_at (take j terms) arc) (cond (term.0 == arc) term.1 (pos 0))

  share_here : pos weight *ℤ cond (term.0 == term.0) term.1 (pos 0) ≡ pos weight *ℤ term.1
  share_here = ap (λ (t : Bool). pos weight *ℤ cond t term.1 (pos 0)) (eq-eqb term.0 term.0 refl)

  share_elsewhere : (arc : ℕ) → arc ≢ term.0 → pos weight *ℤ cond (term.0 == arc) term.1 (pos 0) ≡ pos 0
  share_elsewhere arc differs =
      ap (λ (t : Bool). pos weight *ℤ cond t term.1 (pos 0)) (ne_eqb term.0 arc (λ e. differs (sym e))) ∙ omega (arith, linear, times_zero (pos weight))

  pub term_added : (start sums : List ℤ) (share new : ℤ) → term.0 < length sums → ((arc : ℕ) → number_at sums arc ≡ number_at start arc +ℤ pos weight *ℤ coef_at (take j terms) arc) → share ≡ pos weight *ℤ term.1 → new ≡ number_at sums term.0 +ℤ share → (arc : ℕ) → number_at (set sums term.0 new) arc ≡ number_at start arc +ℤ pos weight *ℤ coef_at (take (j + 1) terms) arc
  term_added start sums share new inside before is sum =
      at_each (λ arc z. z ≡ number_at start arc +ℤ pos weight *ℤ coef_at (take (j + 1) terms) arc) sums term.0 new inside
      (omega (arith, linear, before term.0, share_more term.0, share_here))
      (λ arc differs. omega (arith, linear, before arc, share_more arc, share_elsewhere arc differs))

-- what the first terms add to a sum is small
pub size_of_share : (arcs weight : ℕ) (terms : List (ℕ × ℤ)) (j arc : ℕ) (start new : ℤ) → AreSmallTerms arcs terms → weight ≤ 2 ^ 60 → new ≡ start +ℤ pos weight *ℤ coef_at (take j terms) arc → unsigned_abs new ≤ unsigned_abs start + 2 ^ 80
size_of_share arcs weight terms j arc start new are light is =
    let coef : unsigned_abs (coef_at (take j terms) arc) ≤ most_coefficient =
    size_of_coef_at (take j terms) most_coefficient arc (ascending_take terms j are.ascending) (All-take (λ t. unsigned_abs t.1 ≤ most_coefficient) j terms are.small) in
    let added : unsigned_abs (pos weight *ℤ coef_at (take j terms) arc) ≤ 2 ^ 80 = size_of_product (pos weight) (coef_at (take j terms) arc) (2 ^ 60) most_coefficient light coef in
    omega (arith, sized)

-- ---- one row after another

-- the pair at a place names a row that is there, with a multiplier within the limit
pub named_at : (rows : List SparseRow) (mult : List (ℕ × ℕ)) (i : ℕ) (d : ℕ × ℕ) → name_rows rows mult ≡ true → i < length mult → (get_or mult i d).0 < length rows
named_at rows mult i d named below = ltb-true (get_or mult i d).0 (length rows) (list_all-at (λ q. nat_lt q.0 (length rows)) mult i d named below)

pub light_pairs : (most limit : ℕ) (mult : List (ℕ × ℕ)) → are_multipliers most mult ≡ true → most ≤ limit → All (λ q. q.1 ≤ limit) mult
light_pairs most limit mult are within i d below =
    let pairs = (and_parts (are_pairs most mult) (nat_le (length mult) most_multipliers) are).0 in
    let seconds = (and_parts _ (list_all (λ q. is_from_one most q.1) mult) pairs).1 in
    let light = leb-true (get_or mult i d).1 most (and_parts (nat_le 1 (get_or mult i d).1) (nat_le (get_or mult i d).1 most) (list_all-at (λ q. is_from_one most q.1) mult i d seconds below)).1 in
    omega arith

pub few_pairs : (most : ℕ) (mult : List (ℕ × ℕ)) → are_multipliers most mult ≡ true → length mult ≤ most_multipliers
few_pairs most mult are = leb-true (length mult) most_multipliers (and_parts (are_pairs most mult) (nat_le (length mult) most_multipliers) are).1

combined_more : (mult : List (ℕ × ℕ)) (i : ℕ) (d : ℕ × ℕ) (number : ℕ → ℤ) → i < length mult → combine_rows (take (i + 1) mult) number ≡ combine_rows (take i mult) number +ℤ pos (get_or mult i d).1 *ℤ number (get_or mult i d).0
combined_more mult i d number below = sum_over_more (λ q. pos q.1 *ℤ number q.0) mult i d below

pub row_combined : (rows : List SparseRow) (mult : List (ℕ × ℕ)) (i : ℕ) (d : ℕ × ℕ) (old new : List ℤ) (side share next : ℤ) → i < length mult → AreCombined rows (take i mult) old side → AreAdded (sparse_at rows (get_or mult i d).0).terms (get_or mult i d).1 old new → IsScaled (get_or mult i d).1 (sparse_at rows (get_or mult i d).0).right_side share → next ≡ side +ℤ share → AreCombined rows (take (i + 1) mult) new next
row_combined rows mult i d old new side share next below are added scaled sum =
    let few : length (take i mult) ≡ i = length-take-le i mult (omega arith) in
    let more : length (take (i + 1) mult) ≡ i + 1 = length-take-le (i + 1) mult (omega arith) in
    record {
      coefs = λ arc. omega (arith, linear, are.coefs arc, added.exact arc, combined_more mult i d (λ r. coef_at (sparse_at rows r).terms arc) below);
      right_side = omega (arith, linear, are.right_side, scaled.exact, combined_more mult i d (λ r. (sparse_at rows r).right_side) below);
      small_coefs = λ arc. omega (arith, are.small_coefs arc, added.size arc);
      small_side = omega (arith, sized, are.small_side, scaled.size);
    }
