-- The balance rows, one arc after another.
use Rattle.std.proofs.Common.{◌≡◌, ℕ, suc, ◌+◌, ◌<◌, ◌≤◌, ◌≢◌, Bool, true, false, cond, ◌==◌, ℤ, pos, negsuc, ◌+ℤ◌, ◌-ℤ◌, unsigned_abs, List, [], ◌∷◌, ◌++◌, length, set, ap, refl, sym, ◌∙◌, subst, arith, get_or-set_other, get_or-set_same}
use Rattle.std.specs.Prelude.{if◌then◌else◌, nat_lt}
use Rattle.std.proofs.lemmas.Bool.{eqb-true, eqb-false, ne_eqb}
use Rattle.std.proofs.lemmas.Bool.Decides.{nat_tests}
use Rattle.std.specs.List.{All}
use Rattle.std.proofs.lemmas.List.Sums.{sum_by-cons, sum_by_push}
use Rattle.std.proofs.lemmas.List.Elements.{All-push, All-weaker}
use Rattle.wrp_sums.specs.Sums.{coef_at}
use Rattle.wrp_sums.proofs.Integers.{linear}
use Rattle.wrp_sums.proofs.SumsOver.{sum_over-push}
use Rattle.wrp_town.specs.declared.town.Town.{Town}
use Rattle.wrp_town.specs.Arcs.{is_legal, tail_of, head_of}
use Rattle.wrp_rules.specs.Rows.{balance_row, one_if}
use Rattle.wrp_pool.specs.declared.row.SparseRow.{SparseRow}
use Rattle.wrp_rules.specs.Rows.{most_coefficient}
use Rattle.wrp_pool.specs.Pools.{terms_on}
use Rattle.wrp_pool.specs.Sparse.{bare_row, row_in, with_term, AreTermsBelow, IsBalanceBelow, AreBalancesBelow}

-- ---- a row, one arc after another

-- how many terms are on an arc, with one more
terms_on-push : (terms : List (ℕ × ℤ)) (term : ℕ × ℤ) (arc : ℕ) → terms_on (terms ++ term ∷ []) arc ≡ terms_on terms arc + cond (term.0 == arc) 1 0
terms_on-push terms term arc = sum_by_push (λ t. cond (t.0 == arc) 1 0) terms term

-- there is none on an arc past those of the terms
none_past : (n : ℕ) (terms : List (ℕ × ℤ)) → All (λ t. t.0 < n) terms → terms_on terms n ≡ 0
none_past n [] within = refl
none_past n (t ∷ terms) within =
    let less : t.0 < n = within 0 t (omega arith) in
    let other : (t.0 == n) ≡ false = ne_eqb t.0 n (λ e. absurd (omega arith)) in
    omega (arith, sum_by-cons (λ u. cond (u.0 == n) 1 0) t terms, ap (λ (u : Bool). cond {A = ℕ} u 1 0) other, none_past n terms (λ k d below. within (suc k) d (omega arith)))

module _ (town : Town) where
  -- terms on the first n arcs are on one arc more too
  terms_below_next : (n : ℕ) (terms : List (ℕ × ℤ)) → AreTermsBelow town n terms → AreTermsBelow town (n + 1) terms
  terms_below_next n terms below = record {
    are = below.are;
    within = All-weaker (λ t. t.0 < n) (λ t. t.0 < n + 1) (λ t less. omega arith) terms below.within;
  }

  -- and with a term on the next arc
  terms_pushed : (n : ℕ) (z : ℤ) (terms : List (ℕ × ℤ)) → is_legal town n ≡ true → unsigned_abs z ≤ most_coefficient → AreTermsBelow town n terms → AreTermsBelow town (n + 1) (with_term (record { terms = terms; right_side = pos 0 }) (n, z)).terms
  terms_pushed n z terms legal small below = record {
    are = record {
      once = λ arc. once_more arc (n == arc) refl;
      legal = All-push (λ t. is_legal town t.0 ≡ true) terms (n, z) below.are.legal legal;
      small = All-push (λ t. unsigned_abs t.1 ≤ most_coefficient) terms (n, z) below.are.small small;
    };
    within = All-push (λ t. t.0 < n + 1) terms (n, z) (terms_below_next n terms below).within (omega arith);
  }
    where
      once_more : (arc : ℕ) (t : Bool) → (n == arc) ≡ t → terms_on (terms ++ (n, z) ∷ []) arc ≤ 1
      once_more arc true e = omega (arith, terms_on-push terms (n, z) arc, ap (λ (u : Bool). cond {A = ℕ} u 1 0) e, none_past n terms below.within, ap (terms_on terms) (eqb-true n arc e))
      once_more arc false e = omega (arith, terms_on-push terms (n, z) arc, ap (λ (u : Bool). cond {A = ℕ} u 1 0) e, below.are.once arc)

not_below_itself : (n : ℕ) → nat_lt n n ≡ false
not_below_itself n = grind (arith, nat_tests)

below_next : (n : ℕ) → nat_lt n (n + 1) ≡ true
below_next n = grind (arith, nat_tests)

below_as_before : (a n : ℕ) → n ≢ a → nat_lt a (n + 1) ≡ nat_lt a n
below_as_before a n differs = grind (arith, nat_tests)

module _ (town : Town) (n j : ℕ) where
  -- the balance of an arc, where the row has it
  abbrev balance_if : ℕ → Bool → ℤ
  balance_if arc t = if t then (balance_row town j).coef arc else pos 0

  -- the coefficients, where that at arc n has grown by its balance
  coef_step : (old new : SparseRow) (z : ℤ) → IsBalanceBelow town n j old → ((arc : ℕ) → coef_at new.terms arc ≡ coef_at old.terms arc +ℤ cond (n == arc) z (pos 0)) → (is_legal town n ≡ true → z ≡ (balance_row town j).coef n) → (arc : ℕ) → is_legal town arc ≡ true → coef_at new.terms arc ≡ (if nat_lt arc (n + 1) then (balance_row town j).coef arc else pos 0)
  coef_step old new z before grown is arc legal = by (n == arc) refl (grown arc)
    where
      by : (t : Bool) → (n == arc) ≡ t → coef_at new.terms arc ≡ coef_at old.terms arc +ℤ cond t z (pos 0) → coef_at new.terms arc ≡ (if nat_lt arc (n + 1) then (balance_row town j).coef arc else pos 0)
      by true e sum =
          let same : n ≡ arc = eqb-true n arc e in
          let none : coef_at old.terms arc ≡ pos 0 = before.coef arc legal ∙ ap (balance_if arc) (subst (λ k. nat_lt k n ≡ false) same (not_below_itself n)) in
          let all : z ≡ (balance_row town j).coef arc = is (subst (λ k. is_legal town k ≡ true) (sym same) legal) ∙ ap (λ (k : ℕ). (balance_row town j).coef k) same in
          let new_is : coef_at new.terms arc ≡ z = omega (arith, linear) in
          new_is ∙ all ∙ sym (ap (balance_if arc) (subst (λ k. nat_lt k (n + 1) ≡ true) same (below_next n)))
      by false e sum =
          let kept : coef_at new.terms arc ≡ coef_at old.terms arc = omega (arith, linear) in
          kept ∙ before.coef arc legal ∙ sym (ap (balance_if arc) (below_as_before arc n (eqb-false n arc e)))

  -- a row with a term on arc n
  term_step : (row : SparseRow) (z : ℤ) → is_legal town n ≡ true → unsigned_abs z ≤ most_coefficient → IsBalanceBelow town n j row → z ≡ (balance_row town j).coef n → IsBalanceBelow town (n + 1) j (with_term row (n, z))
  term_step row z legal small before is = record {
    coef = coef_step row (with_term row (n, z)) z before (λ arc. sum_over-push (λ t. cond (t.0 == arc) t.1 (pos 0)) row.terms (n, z)) (λ legal. is);
    right_side = before.right_side;
    terms = terms_pushed town n z row.terms legal small before.terms;
  }

  -- and as it was
  kept_step : (row : SparseRow) → IsBalanceBelow town n j row → (is_legal town n ≡ true → pos 0 ≡ (balance_row town j).coef n) → IsBalanceBelow town (n + 1) j row
  kept_step row before is = record {
    coef = coef_step row row (pos 0) before (λ arc. by (n == arc) (coef_at row.terms arc)) is;
    right_side = before.right_side;
    terms = terms_below_next town n row.terms before.terms;
  }
    where
      by : (t : Bool) (x : ℤ) → x ≡ x +ℤ cond t (pos 0) (pos 0)
      by true x = omega (arith, linear)
      by false x = omega (arith, linear)

  -- leaving adds 1 and entering takes 1 away
  ends_step : (row : SparseRow) (leaves enters : Bool) → is_legal town n ≡ true → (leaves ≡ true → enters ≡ true → ⊥) → one_if leaves -ℤ one_if enters ≡ (balance_row town j).coef n → IsBalanceBelow town n j row → IsBalanceBelow town (n + 1) j (cond enters (with_term (cond leaves (with_term row (n, pos 1)) row) (n, negsuc 0)) (cond leaves (with_term row (n, pos 1)) row))
  ends_step row true true legal either is before = absurd (either refl refl)
  ends_step row true false legal either is before = term_step row (pos 1) legal (omega arith) before is
  ends_step row false true legal either is before = term_step row (negsuc 0) legal (omega arith) before is
  ends_step row false false legal either is before = kept_step row before (λ legal. is)

-- ---- the rows, one arc after another

-- each row, after a term more in one of them
row_pushed : (rows : List SparseRow) (at j : ℕ) (term : ℕ × ℤ) → at < length rows → row_in (set rows at (with_term (row_in rows at) term)) j ≡ cond (at == j) (with_term (row_in rows j) term) (row_in rows j)
row_pushed rows at j term inside = by (at == j) refl
  where
    by : (t : Bool) → (at == j) ≡ t → row_in (set rows at (with_term (row_in rows at) term)) j ≡ cond t (with_term (row_in rows j) term) (row_in rows j)
    by true e =
        let same : at ≡ j = eqb-true at j e in
        subst (λ k. row_in (set rows at (with_term (row_in rows at) term)) k ≡ with_term (row_in rows k) term) same
        (get_or-set_same rows at (with_term (row_in rows at) term) bare_row inside)
    by false e = get_or-set_other rows at j (with_term (row_in rows at) term) bare_row (λ same. eqb-false at j e (sym same))

-- an arc from tail to head adds a term to the rows of both
pub balances_step : (town : Town) (n tail head : ℕ) (rows one two : List SparseRow) → AreBalancesBelow town n rows → is_legal town n ≡ true → tail ≡ tail_of town n → head ≡ head_of town n → tail ≢ head → tail < length town.junctions → head < length town.junctions → one ≡ set rows tail (with_term (row_in rows tail) (n, pos 1)) → two ≡ set one head (with_term (row_in one head) (n, negsuc 0)) → length one ≡ length rows → length two ≡ length one → AreBalancesBelow town (n + 1) two
balances_step town n tail head rows one two before legal tail_is head_is differ tail_in head_in first second long_one long_two = record {
  count = long_two ∙ long_one ∙ before.count;
  each = λ j inside.
      let row_one : row_in one j ≡ cond (tail == j) (with_term (row_in rows j) (n, pos 1)) (row_in rows j) =
      ap (λ (xs : List SparseRow). row_in xs j) first ∙ row_pushed rows tail j (n, pos 1) (omega (arith, before.count)) in
      let row_two : row_in two j ≡ cond (head == j) (with_term (row_in one j) (n, negsuc 0)) (row_in one j) =
      ap (λ (xs : List SparseRow). row_in xs j) second ∙ row_pushed one head j (n, negsuc 0) (omega (arith, before.count)) in
      subst (IsBalanceBelow town (n + 1) j) (sym (row_two ∙ ap (λ (r : SparseRow). cond (head == j) (with_term r (n, negsuc 0)) r) row_one))
      (ends_step town n j (row_in rows j) (tail == j) (head == j) legal
      (λ leaves enters. differ (eqb-true tail j leaves ∙ sym (eqb-true head j enters)))
      (ap (λ (k : ℕ). one_if (k == j) -ℤ one_if (head == j)) tail_is ∙ ap (λ (k : ℕ). one_if (tail_of town n == j) -ℤ one_if (k == j)) head_is)
      (before.each j inside));
}
