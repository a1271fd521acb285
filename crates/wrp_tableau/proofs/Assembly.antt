-- The tableau after a pivot, from the changes of its rows.
use Rattle.std.proofs.Common.{◌≡◌, ◌≢◌, ℕ, zero, suc, ◌<◌, ◌≤◌, ◌^◌, unsigned_abs, pos, List, [], ◌∷◌, map, length, get_or, All, ap, refl, sym, ◌∙◌, arith, subst, inl, inr, slice_set}
use Rattle.std.proofs.lemmas.Bool.{cases_eq, cases_lt}
use Rattle.std.proofs.lemmas.List.{same_lists, get_or_default, length-map, get_or-map}
use Rattle.std.proofs.lemmas.List.Elements.{All-from_get_or}
use Rattle.wrp_sums.specs.Sums.{coef_at}
use Rattle.wrp_sums.proofs.Integers.{linear}
use Rattle.wrp_tableau.specs.declared.row.Row.{Row}
use Rattle.wrp_tableau.specs.declared.change.Change.{Change}
use Rattle.wrp_tableau.specs.Equations.{Equation, nothing, common_factor, reduced, without}
use Rattle.wrp_tableau.specs.Systems.{variables, row, basic, pivoted, IsWideRow, IsWide}
use Rattle.wrp_tableau.specs.Soundness.{IsSound}
use Rattle.wrp_tableau.specs.Sparse.{AreBelow}
use Rattle.wrp_tableau.specs.Rows.{empty, equation, IsStored, IsPrimitive, row_without, HasEntry}
use Rattle.wrp_tableau.specs.Changes.{changed, changed_rows, row_at, change_at, new_equation, TakesOut, IsWideWithout, CanPivot, AreChanges, IsSomeWide}
use Rattle.wrp_tableau.specs.Kept.{SparseSystem, system, IsKept, pivoted_by, IsPivot}
use Rattle.wrp_tableau.proofs.Factoring.{entry_at_term, entry_of}
use Rattle.wrp_tableau.proofs.Changing.{new_same, new_other}
use Rattle.wrp_tableau.proofs.Pivots.{row_same, row_other, rows_kept, variables_kept, cost_is, without_some, sound_kept}

-- ---- lists of changed rows
pub length-changed_rows : (rows : List Row) (changes : List Change) → length (changed_rows rows changes) ≡ length rows
length-changed_rows [] changes = refl
length-changed_rows (row ∷ rows) [] = refl
length-changed_rows (row ∷ rows) (next ∷ changes) = ap suc (length-changed_rows rows changes)

row_at-changed_rows : (rows : List Row) (changes : List Change) (k : ℕ) → k < length rows → k < length changes → row_at (changed_rows rows changes) k ≡ changed (row_at rows k) (change_at changes k)
row_at-changed_rows [] changes k h i = absurd (omega arith)
row_at-changed_rows (row ∷ rows) [] k h i = absurd (omega arith)
row_at-changed_rows (row ∷ rows) (next ∷ changes) zero h i = refl
row_at-changed_rows (row ∷ rows) (next ∷ changes) (suc k) h i = row_at-changed_rows rows changes k (omega arith) (omega arith)

-- a term whose entry isn't 0 has a number where there may be one
number_within : (x : Row) (n : ℕ) → IsStored x → ((j : ℕ) → n ≤ j → coef_at x.terms j ≡ pos 0) → AreBelow n x.terms
number_within x n stored none = All-from_get_or (λ t. t.0 < n) x.terms (0, pos 0) (λ k h. elim (cases_lt (get_or x.terms k (0, pos 0)).0 n) [
  | inl below ↦ below
  | inr past ↦ absurd (stored.sparse.some k (0, pos 0) h (sym (entry_at_term x.terms k stored.sparse.ascending h) ∙ none (get_or x.terms k (0, pos 0)).0 past))
])

module _ (s : SparseSystem) (kept : IsKept s) where
  size : length (map equation s.rows) ≡ length s.rows
  size = length-map s.rows equation

  pub inside : (k : ℕ) → k < length s.rows → k < length (map equation s.rows)
  inside k h = subst (λ n. k < n) (sym size) h

  pub row_is : (k : ℕ) (d : Row) → k < length s.rows → row (system s) k ≡ equation (get_or s.rows k d)
  row_is k d h = get_or-map equation s.rows k d nothing h

  pub rows_primitive : All (IsPrimitive (suc (variables (system s)))) s.rows
  rows_primitive k d h = record {
    below = number_within (get_or s.rows k d) (suc (variables (system s))) (kept.rows_stored k d h)
        (λ j past. subst (λ f. f.entry j ≡ pos 0) (row_is k d h) (kept.sound.in_range k j (inside k h) (omega arith)));
    factor = subst (λ f. common_factor (suc (variables (system s))) f ≡ 1) (row_is k d h) (kept.sound.primitive k (inside k h));
  }

  pub cost_primitive : IsPrimitive (suc (variables (system s))) s.cost
  cost_primitive = record {
    below = number_within s.cost (suc (variables (system s))) kept.cost_stored (λ j past. kept.sound.cost_in_range j past);
    factor = kept.sound.cost_primitive;
  }

module _ (s : SparseSystem) (kept : IsKept s) (r c : ℕ) (here : r < length s.rows) (some : (row (system s) r).entry c ≢ pos 0) where
  -- an equation keeps an entry that the row of the pivot hasn't
  keeps_entry : (e : Equation) (j : ℕ) → (row (system s) r).entry j ≡ pos 0 → e.entry j ≢ pos 0 → HasEntry (without c (equation (row_at s.rows r)) e)
  keeps_entry e j none has = (
    j,
    subst (λ by. (without c by e).entry j ≢ pos 0) (row_is s kept r empty here)
        (without_some (system s) r c kept.sound (inside s kept r here) some e j none has),
  )

  pub can_pivot : CanPivot c r s.rows
  can_pivot = record {
    there = here;
    own = subst (λ e. e.entry c ≢ pos 0) (row_is s kept r empty here) some;
    stored = kept.rows_stored;
    some = λ k h other.
        subst (λ e. HasEntry (without c (equation (row_at s.rows r)) e)) (row_is s kept k empty h)
        (keeps_entry (row (system s) k) (basic (system s) k) (kept.sound.alone k r (inside s kept k h) (inside s kept r here) (λ e. other (sym e))) (kept.sound.own k (inside s kept k h)));
  }

  pub cost_entry : HasEntry (row_without c (row_at s.rows r) s.cost)
  cost_entry = keeps_entry (equation s.cost) (variables (system s)) (kept.sound.in_range r (variables (system s)) (inside s kept r here) (omega arith)) (λ none. absurd (omega (arith, linear, none, kept.sound.scaled)))

  new_row_is : (k : ℕ) → k < length s.rows → new_equation (suc (variables (system s))) c r s.rows k ≡ row (pivoted (system s) r c) k
  new_row_is k h =
      let u = system s in
      let n = suc (variables u) in
      elim (cases_eq k r) [
        | inl same ↦ new_same n c r s.rows k same ∙ ap (reduced n) (sym (row_is s kept r empty here)) ∙ sym (row_same u r c (inside s kept r here)) ∙ ap (row (pivoted u r c)) (sym same)
        | inr other ↦ new_other n c r s.rows k other
            ∙ ap (λ (by : Equation). reduced n (without c by (equation (row_at s.rows k)))) (sym (row_is s kept r empty here))
            ∙ ap (λ (e : Equation). reduced n (without c (row u r) e)) (sym (row_is s kept k empty h))
            ∙ sym (row_other u r c k (inside s kept k h) other)
      ]

  new_cost_is : reduced (suc (variables (system s))) (row_without c (row_at s.rows r) s.cost) ≡ (pivoted (system s) r c).cost
  new_cost_is =
      let u = system s in
      ap (λ (by : Equation). reduced (suc (variables u)) (without c by (equation s.cost))) (sym (row_is s kept r empty here)) ∙ sym (cost_is u r c)

  pub wide_row : IsSomeWide c r s.rows → IsWide (pivoted (system s) r c)
  wide_row (k, h, wide) = inl (
    k,
    subst (λ n. k < n) (sym (rows_kept (system s) r c ∙ size s kept)) h,
    subst IsWideRow (new_row_is k h) (wide (suc (variables (system s))) (rows_primitive s kept)),
  )

  pub wide_cost : IsWideWithout c (row_at s.rows r) s.cost → IsWide (pivoted (system s) r c)
  wide_cost wide = inr (subst IsWideRow new_cost_is (wide (suc (variables (system s))) (cost_primitive s kept) (rows_primitive s kept r empty here)))

  same_rows : (changes : List Change) → AreChanges c r s.rows (length s.rows) changes → map equation (changed_rows s.rows changes) ≡ (pivoted (system s) r c).rows
  same_rows changes are =
      let u = system s in
      let n = suc (variables u) in
      let made = changed_rows s.rows changes in
      let made_size : length (map equation made) ≡ length s.rows = length-map made equation ∙ length-changed_rows s.rows changes in
      same_lists (map equation made) (pivoted u r c).rows (made_size ∙ sym (rows_kept u r c ∙ size s kept))
      (λ k d h.
      let below : k < length s.rows = subst (λ n. k < n) made_size h in
      let below_changes : k < length changes = subst (λ n. k < n) (sym are.count) below in
      get_or-map equation made k empty d (subst (λ n. k < n) (length-map made equation) h)
      ∙ ap equation (row_at-changed_rows s.rows changes k below below_changes)
      ∙ (are.each k below).equation n (rows_primitive s kept)
      ∙ new_row_is k below
      ∙ get_or_default (pivoted u r c).rows k nothing d (subst (λ n. k < n) (sym (rows_kept u r c ∙ size s kept)) below))

  pub assembled : (changes : List Change) (cost : Change) → AreChanges c r s.rows (length s.rows) changes → TakesOut c (row_at s.rows r) s.cost cost → IsStored (changed s.cost cost) → IsPivot s r c changes cost
  unfolding pivoted
  assembled changes cost are takes_out stored = record {
    count = are.count;
    rows_stored = All-from_get_or IsStored (changed_rows s.rows changes) empty (λ k h.
        let below : k < length s.rows = subst (λ n. k < n) (length-changed_rows s.rows changes) h in
        subst IsStored (sym (row_at-changed_rows s.rows changes k below (subst (λ n. k < n) (sym are.count) below))) (are.each k below).stored);
    cost_stored = stored;
    pivoted =
        let u = system s in
        ap (λ (rs : List Equation). record { width = s.width; rows = rs; basics = slice_set s.basics r c; cost = equation (changed s.cost cost) }) (same_rows changes are)
        ∙ ap (λ (e : Equation). record { width = s.width; rows = (pivoted u r c).rows; basics = slice_set s.basics r c; cost = e })
        (takes_out (suc (variables u)) (cost_primitive s kept) (rows_primitive s kept r empty here) ∙ new_cost_is);
  }

  -- the tableau after the pivot is kept
  pub kept_after : (changes : List Change) (cost : Change) → IsPivot s r c changes cost → IsKept (pivoted_by s r c changes cost)
  kept_after changes cost is = record {
    sound = subst IsSound (sym is.pivoted) (sound_kept (system s) r c kept.sound (inside s kept r here) some);
    rows_stored = is.rows_stored;
    cost_stored = is.cost_stored;
    numbered = subst (λ t. suc (variables t) < 2 ^ 32) (sym is.pivoted) (subst (λ n. suc n < 2 ^ 32) (sym (variables_kept (system s) r c)) kept.numbered);
  }

-- ---- a kept tableau isn't wide
stored_narrow : (x : Row) → IsStored x → IsWideRow (equation x) → ⊥
stored_narrow x stored wide = elim wide [
  | inl (j, over) ↦ (let less : unsigned_abs (coef_at x.terms j) ≤ 2 ^ 60 = entry_of (λ z. unsigned_abs z ≤ 2 ^ 60) x.terms j stored.sparse.ascending (omega arith) stored.sparse.small in absurd (omega arith))
  | inr over ↦ (let less = stored.right_small in absurd (omega arith))
]

pub kept_narrow : (s : SparseSystem) → IsKept s → IsWide (system s) → ⊥
kept_narrow s kept wide = elim wide [
  | inl (r, h, over) ↦
      (let there : r < length s.rows = subst (λ n. r < n) (length-map s.rows equation) h in
      stored_narrow (row_at s.rows r) (kept.rows_stored r empty there) (subst IsWideRow (row_is s kept r empty there) over))
  | inr over ↦ stored_narrow s.cost kept.cost_stored over
]
