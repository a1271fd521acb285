-- The common factor of a sparse row, as a loop finds it.
use Rattle.std.proofs.Common.{◌≡◌, ◌≢◌, ℕ, zero, suc, ◌+◌, ◌<◌, ◌≤◌, ◌^◌, ◌==◌, cond, Bool, true, false, unsigned_abs, ℤ, pos, negsuc, ◌+ℤ◌, ◌≤ℤ◌, ◌<ℤ◌, List, [], ◌∷◌, length, take, get_or, All, AllPairs, ap, refl, sym, ◌∙◌, arith, subst, eq-eqb}
use Rattle.std.specs.Int.{w128, IsGcd, ◌∣◌}
use Rattle.std.proofs.lemmas.Nat.Gcd.{dvd_trans, dvd_antisymm, dvd_refl, dvd-zero, le_of_dvd}
use Rattle.std.proofs.lemmas.Int.{to_z-of_z, fits_signed_from_abs}
use Rattle.std.proofs.Math.Seq.{take-length}
use Rattle.std.proofs.Math.Nat.{eq-zero_of_zero-dvd, one-dvd}
use mir.Val.{to_z, of_z}
use Rattle.wrp_tableau.proofs.Combining.{size_above}
use Rattle.std.proofs.lemmas.List.Elements.{All-take, All-more, All-get_or, All-from_get_or, All-nil, All-head, All-tail, All-contains}
use Rattle.std.proofs.lemmas.Bool.{ne_eqb, eqb-true}
use Rattle.std.proofs.lemmas.List.{get_or-take, length-take-le}
use Rattle.wrp_sums.proofs.SumsOver.{sum_over-all_zero}
use Rattle.wrp_sums.specs.Sums.{coef_at}
use Rattle.wrp_sums.proofs.Integers.{linear}
use Rattle.wrp_tableau.specs.Equations.{common_factor}
use Rattle.wrp_tableau.specs.Sparse.{IsSparse, dense}
use Rattle.wrp_tableau.proofs.Factors.{factor_divides, factor_divides_right, factor_greatest}

-- g is the greatest common factor of the entries of a list of terms and a right side
pub record IsFactor (terms : List (ℕ × ℤ)) (right : ℤ) (g : ℕ) : Type 0 where
  pub entries : All (λ t. g ∣ unsigned_abs t.1) terms
  pub side : g ∣ unsigned_abs right
  pub greatest : (d : ℕ) → All (λ t. d ∣ unsigned_abs t.1) terms → d ∣ unsigned_abs right → d ∣ g

pub factor_start : (right : ℤ) (g : ℕ) → g ≡ unsigned_abs right → IsFactor [] right g
factor_start right g e = record {
  entries = All-nil (λ t. g ∣ unsigned_abs t.1);
  side = subst (λ k. g ∣ k) e (dvd_refl g);
  greatest = λ d all last. subst (λ k. d ∣ k) (sym e) last;
}

pub factor_more : (terms : List (ℕ × ℤ)) (i : ℕ) (right : ℤ) (g h : ℕ) → i < length terms → IsFactor (take i terms) right g → IsGcd g (unsigned_abs (get_or terms i (0, pos 0)).1) h → IsFactor (take (i + 1) terms) right h
factor_more terms i right g h below is gcd = record {
  entries = All-more (λ t. h ∣ unsigned_abs t.1) terms i (0, pos 0) below (λ k d m. dvd_trans h gcd.0 (is.entries k d m)) gcd.1;
  side = dvd_trans h gcd.0 is.side;
  greatest = λ d all last. gcd.2 d (is.greatest d (before d all) last) (at d all);
}
  where
    before : (d : ℕ) → All (λ t. d ∣ unsigned_abs t.1) (take (i + 1) terms) → All (λ t. d ∣ unsigned_abs t.1) (take i terms)
    before d all k e h =
        let len : length (take i terms) ≡ i = length-take-le i terms (omega arith) in
        let more : length (take (i + 1) terms) ≡ i + 1 = length-take-le (i + 1) terms (omega arith) in
        subst (λ t. d ∣ unsigned_abs t.1) (get_or-take (i + 1) terms k e (omega arith) ∙ sym (get_or-take i terms k e (omega arith))) (all k e (omega arith))

    at : (d : ℕ) → All (λ t. d ∣ unsigned_abs t.1) (take (i + 1) terms) → d ∣ unsigned_abs (get_or terms i (0, pos 0)).1
    at d all =
        let more : length (take (i + 1) terms) ≡ i + 1 = length-take-le (i + 1) terms (omega arith) in
        subst (λ t. d ∣ unsigned_abs t.1) (get_or-take (i + 1) terms i (0, pos 0) (omega arith)) (all i (0, pos 0) (omega arith))

pub ascending_head : (t : ℕ × ℤ) (terms : List (ℕ × ℤ)) → AllPairs (λ s t. s.0 < t.0) (t ∷ terms) → All (λ s. t.0 < s.0) terms
ascending_head t terms pairs k d h = pairs 0 (suc k) d (omega arith) (omega arith)

pub ascending_tail : (t : ℕ × ℤ) (terms : List (ℕ × ℤ)) → AllPairs (λ s t. s.0 < t.0) (t ∷ terms) → AllPairs (λ s t. s.0 < t.0) terms
ascending_tail t terms pairs i j d less h = pairs (suc i) (suc j) d (omega arith) (omega arith)

-- a row has no entry at a number that no term has
pub coef_absent : (terms : List (ℕ × ℤ)) (j : ℕ) → All (λ t. t.0 ≢ j) terms → coef_at terms j ≡ pos 0
coef_absent terms j all = sum_over-all_zero (λ t. cond (t.0 == j) t.1 (pos 0)) terms (λ t inside. rw (ne_eqb t.0 j (All-contains (λ t. t.0 ≢ j) terms t all inside)) refl)

-- the entry of a sparse row at a number is one of its terms', or 0
pub entry_of : (P : ℤ → Type 0) (terms : List (ℕ × ℤ)) (j : ℕ) → AllPairs (λ s t. s.0 < t.0) terms → P (pos 0) → All (λ t. P t.1) terms → P (coef_at terms j)
entry_of P [] j ascending none all = none
entry_of P (t ∷ terms) j ascending none all = by (entry_of P terms j (ascending_tail t terms ascending) none (All-tail (λ t. P t.1) t terms all)) (t.0 == j) refl
  where
    by : P (coef_at terms j) → (q : Bool) → (t.0 == j) ≡ q → P (cond q t.1 (pos 0) +ℤ coef_at terms j)
    by rest true e = subst P (omega (arith, linear, coef_absent terms j (λ k d h. let same = eqb-true t.0 j e in let above = ascending_head t terms ascending k d h in λ (f : (get_or terms k d).0 ≡ j). absurd (omega arith)))) (All-head (λ t. P t.1) t terms all)
    by rest false e = subst P (omega (arith, linear)) rest

-- a term's entry is the entry at its number
pub entry_at_term : (terms : List (ℕ × ℤ)) (k : ℕ) → AllPairs (λ s t. s.0 < t.0) terms → k < length terms → coef_at terms (get_or terms k (0, pos 0)).0 ≡ (get_or terms k (0, pos 0)).1
entry_at_term [] k ascending h = absurd (omega arith)
entry_at_term (t ∷ terms) zero ascending h =
    rw (eq-eqb t.0 t.0 refl)
    (omega (arith, linear, coef_absent terms t.0 (λ k d h. let above = ascending_head t terms ascending k d h in λ (f : (get_or terms k d).0 ≡ t.0). absurd (omega arith))))
entry_at_term (t ∷ terms) (suc k) ascending h =
    let above = ascending_head t terms ascending k (0, pos 0) (omega arith) in
    rw (ne_eqb t.0 (get_or terms k (0, pos 0)).0 (λ e. absurd (omega arith)))
    (omega (arith, linear, entry_at_term terms k (ascending_tail t terms ascending) (omega arith)))

pub factor_is : (n : ℕ) (terms : List (ℕ × ℤ)) (right : ℤ) (g : ℕ) → AllPairs (λ s t. s.0 < t.0) terms → All (λ t. t.0 < n) terms → IsFactor terms right g → g ≡ common_factor n (dense terms right)
factor_is n terms right g ascending within is = dvd_antisymm
    (factor_greatest n (dense terms right) g (λ j h. entry_of (λ z. g ∣ unsigned_abs z) terms j ascending (dvd-zero g) is.entries) is.side)
    (is.greatest (common_factor n (dense terms right))
    (All-from_get_or (λ t. common_factor n (dense terms right) ∣ unsigned_abs t.1) terms (0, pos 0)
    (λ k h. subst (λ z. common_factor n (dense terms right) ∣ unsigned_abs z) (entry_at_term terms k ascending h) (factor_divides n (dense terms right) (get_or terms k (0, pos 0)).0 (All-get_or (λ t. t.0 < n) terms k (0, pos 0) h within))))
    (factor_divides_right n (dense terms right)))

pub cast : (z : ℤ) → unsigned_abs z ≤ 2 ^ 121 → to_z w128 (of_z w128 z) ≡ z
cast z h = to_z-of_z w128 z (fits_signed_from_abs w128 z (omega arith))

-- what the loop keeps: z is the factor of the first i terms
pub record Factoring (terms : List (ℕ × ℤ)) (right : ℤ) (i : ℕ) (z : ℤ) : Type 0 where
  pub above : pos 0 ≤ℤ z
  pub factor : IsFactor (take i terms) right (unsigned_abs z)
  pub small : unsigned_abs z ≤ 2 ^ 121

pub factoring_start : (terms : List (ℕ × ℤ)) (right z : ℤ) → unsigned_abs right ≤ 2 ^ 121 → z ≡ pos (unsigned_abs (to_z w128 (of_z w128 right))) → Factoring terms right 0 (to_z w128 (of_z w128 z))
factoring_start terms right z h e =
    let same : z ≡ pos (unsigned_abs right) = e ∙ ap (λ (y : ℤ). pos (unsigned_abs y)) (cast right h) in
    let less : unsigned_abs z ≤ 2 ^ 121 = rw same h in
    subst (Factoring terms right 0) (sym (cast z less))
    (record { above = rw same (omega (arith, linear)); factor = factor_start right (unsigned_abs z) (ap unsigned_abs same); small = less })

pub factoring_more : (terms : List (ℕ × ℤ)) (right : ℤ) (i : ℕ) (z next : ℤ) → i < length terms → IsSparse (2 ^ 121) terms → Factoring terms right i z → pos 0 ≤ℤ next → IsGcd (unsigned_abs z) (unsigned_abs (to_z w128 (of_z w128 (get_or terms i (0, pos 0)).1))) (unsigned_abs next) → Factoring terms right (i + 1) (to_z w128 (of_z w128 next))
factoring_more terms right i z next h sparse so_far above gcd =
    let t = (get_or terms i (0, pos 0)).1 in
    let is : IsGcd (unsigned_abs z) (unsigned_abs t) (unsigned_abs next) = subst (λ y. IsGcd (unsigned_abs z) (unsigned_abs y) (unsigned_abs next)) (cast t (sparse.small i (0, pos 0) h)) gcd in
    let some : 0 < unsigned_abs t = size_above t (sparse.some i (0, pos 0) h) in
    let less : unsigned_abs next ≤ unsigned_abs t = le_of_dvd some is.1 in
    let bound : unsigned_abs t ≤ 2 ^ 121 = sparse.small i (0, pos 0) h in
    let small : unsigned_abs next ≤ 2 ^ 121 = omega arith in
    subst (Factoring terms right (i + 1)) (sym (cast next small))
    (record { above = above; factor = factor_more terms i right (unsigned_abs z) (unsigned_abs next) h so_far.factor is; small = small })

pub factoring_end : (n : ℕ) (terms : List (ℕ × ℤ)) (right : ℤ) (i : ℕ) (z : ℤ) → length terms ≤ i → i ≤ length terms → IsSparse (2 ^ 121) terms → All (λ t. t.0 < n) terms → Factoring terms right i z → z ≡ pos (common_factor n (dense terms right))
factoring_end n terms right i z h k sparse within so_far =
    let is : IsFactor terms right (unsigned_abs z) = subst (λ xs. IsFactor xs right (unsigned_abs z)) (take_all terms i h k) so_far.factor in
    size_is z so_far.above ∙ ap pos (factor_is n terms right (unsigned_abs z) sparse.ascending within is)
  where
    size_is : (z : ℤ) → pos 0 ≤ℤ z → z ≡ pos (unsigned_abs z)
    size_is (pos a) h = refl
    size_is (negsuc a) h = absurd (omega (arith, linear))

    take_all : (xs : List (ℕ × ℤ)) (i : ℕ) → length xs ≤ i → i ≤ length xs → take i xs ≡ xs
    take_all xs i h k = let e : i ≡ length xs = omega arith in rw e (take-length xs)

pub take_all_terms : (xs : List (ℕ × ℤ)) (i : ℕ) → length xs ≤ i → i ≤ length xs → take i xs ≡ xs
take_all_terms xs i h k = let e : i ≡ length xs = omega arith in rw e (take-length xs)

pub factoring_divides : (terms : List (ℕ × ℤ)) (right : ℤ) (i : ℕ) (z : ℤ) → length terms ≤ i → i ≤ length terms → Factoring terms right i z → All (λ t. unsigned_abs z ∣ unsigned_abs t.1) terms
factoring_divides terms right i z h k so_far = subst (λ xs. All (λ t. unsigned_abs z ∣ unsigned_abs t.1) xs) (take_all_terms terms i h k) so_far.factor.entries

pub factoring_positive : (terms : List (ℕ × ℤ)) (right : ℤ) (i : ℕ) (z : ℤ) → length terms ≤ i → i ≤ length terms → IsSparse (2 ^ 121) terms → Factoring terms right i z → 0 < length terms → pos 0 <ℤ z
factoring_positive terms right i z h k sparse so_far some = by z so_far.above (factoring_divides terms right i z h k so_far 0 (0, pos 0) some)
  where
    by : (z : ℤ) → pos 0 ≤ℤ z → unsigned_abs z ∣ unsigned_abs (get_or terms 0 (0, pos 0)).1 → pos 0 <ℤ z
    by (pos zero) above d = let e : unsigned_abs (get_or terms 0 (0, pos 0)).1 ≡ 0 = eq-zero_of_zero-dvd d in let m = size_above (get_or terms 0 (0, pos 0)).1 (sparse.some 0 (0, pos 0) some) in absurd (omega arith)
    by (pos (suc a)) above d = omega (arith, linear)
    by (negsuc a) above d = absurd (omega (arith, linear))

-- once the factor is 1, it is that of all terms
pub factoring_one : (terms : List (ℕ × ℤ)) (right : ℤ) (i : ℕ) (z : ℤ) → i ≤ length terms → z ≡ pos 1 → Factoring terms right i z → Factoring terms right (length terms) (pos 1)
factoring_one terms right i z h one so_far = record {
  above = omega (arith, linear);
  factor = record {
    entries = λ k d m. one-dvd (unsigned_abs (get_or (take (length terms) terms) k d).1);
    side = one-dvd (unsigned_abs right);
    greatest = λ d all last.
        let f : IsFactor (take i terms) right 1 = subst (λ y. IsFactor (take i terms) right (unsigned_abs y)) one so_far.factor in
        f.greatest d (All-take (λ t. d ∣ unsigned_abs t.1) i terms (subst (All (λ t. d ∣ unsigned_abs t.1)) (take-length terms) all)) last;
  };
  small = omega arith;
}

pub one_divides : (terms : List (ℕ × ℤ)) → All (λ t. 1 ∣ unsigned_abs t.1) terms
one_divides terms k d h = one-dvd (unsigned_abs (get_or terms k d).1)
