-- Laws of sparse rows, whose terms are pairs of a number and a coefficient.
use Rattle.std.proofs.Common.{◌≡◌, ◌≢◌, ℕ, suc, ◌+◌, ◌<◌, ◌≤◌, Bool, cond, ◌==◌, AllPairs, unsigned_abs, ℤ, pos, ◌+ℤ◌, ◌*ℤ◌, List, [], ◌∷◌, length, get_or, take, Contains, count_by, true, false, ap, refl, ◌∙◌, sym, arith, eq-eqb}
use Rattle.std.specs.List.{All}
use Rattle.std.proofs.lemmas.List.{length-take, get_or-take}
use Rattle.std.proofs.lemmas.Bool.{eqb-true, ne_eqb}
use Rattle.wrp_sums.specs.Sums.{sum_over, coef_at}
use Rattle.wrp_sums.proofs.Integers.{linear, sized, +ℤ-*ℤ, zero_times}
use Rattle.wrp_sums.proofs.SumsOver.{sum_over-+ℤ, sum_over-ext, sum_over-all_zero, sum_over_only, sum_over_more, inside_head, for_tail}

-- a row of one term, times x, over numbers among which its number stands once
single_term : (t : ℕ × ℤ) (x : ℕ → ℤ) (numbers : List ℕ) → count_by (λ a. a == t.0) numbers ≡ 1 → sum_over (λ a. cond (t.0 == a) t.1 (pos 0) *ℤ x a) numbers ≡ t.1 *ℤ x t.0
single_term t x numbers once =
    let own : (t.0 == t.0) ≡ true = eq-eqb t.0 t.0 refl in
    sum_over_only (λ a. cond (t.0 == a) t.1 (pos 0) *ℤ x a) t.0 numbers once
    (λ a inside differs. let other : (t.0 == a) ≡ false = ne_eqb t.0 a (λ e. differs (sym e)) in rw other (zero_times (x a)))
    ∙ rw own refl

-- the sum of a row over numbers that hold each of its numbers once is that over its terms
pub dense_is_sparse : (terms : List (ℕ × ℤ)) (x : ℕ → ℤ) (numbers : List ℕ) → ((t : ℕ × ℤ) → Contains terms t → count_by (λ a. a == t.0) numbers ≡ 1) → sum_over (λ a. coef_at terms a *ℤ x a) numbers ≡ sum_over (λ t. t.1 *ℤ x t.0) terms
dense_is_sparse [] x numbers once = sum_over-all_zero (λ a. pos 0 *ℤ x a) numbers (λ a inside. zero_times (x a))
dense_is_sparse (t ∷ terms) x numbers once =
    let first = λ (a : ℕ). cond (t.0 == a) t.1 (pos 0) in
    sum_over-ext (λ a. (first a +ℤ coef_at terms a) *ℤ x a) (λ a. first a *ℤ x a +ℤ coef_at terms a *ℤ x a) (λ a. +ℤ-*ℤ (first a) (coef_at terms a) (x a)) numbers
    ∙ omega (
      arith,
      linear,
      sum_over-+ℤ (λ a. first a *ℤ x a) (λ a. coef_at terms a *ℤ x a) numbers,
      single_term t x numbers (once t (inside_head t terms)),
      dense_is_sparse terms x numbers (for_tail (λ q. count_by (λ a. a == q.0) numbers ≡ 1) t terms once),
    )

-- one more term, as a loop adds it
pub coef_at_more : (terms : List (ℕ × ℤ)) (a j : ℕ) (d : ℕ × ℤ) → j < length terms → coef_at (take (j + 1) terms) a ≡ coef_at (take j terms) a +ℤ cond ((get_or terms j d).0 == a) (get_or terms j d).1 (pos 0)
coef_at_more terms a j d below = sum_over_more (λ t. cond (t.0 == a) t.1 (pos 0)) terms j d below

-- ---- rows whose numbers ascend

-- a number that no term has
coef_at_none : (terms : List (ℕ × ℤ)) (a : ℕ) → ((t : ℕ × ℤ) → Contains terms t → t.0 ≢ a) → coef_at terms a ≡ pos 0
coef_at_none terms a others =
    sum_over-all_zero (λ t. cond (t.0 == a) t.1 (pos 0)) terms
    (λ t inside. ap (λ (b : Bool). cond b t.1 (pos 0)) (ne_eqb t.0 a (others t inside)))

-- a coefficient is that of at most one term
pub size_of_coef_at : (terms : List (ℕ × ℤ)) (m a : ℕ) → AllPairs (λ t u. t.0 < u.0) terms → All (λ t. unsigned_abs t.1 ≤ m) terms → unsigned_abs (coef_at terms a) ≤ m
size_of_coef_at [] m a ascending small = omega arith
size_of_coef_at (t ∷ terms) m a ascending small =
    by (t.0 == a) refl
    (size_of_coef_at terms m a (λ i j d less below. ascending (suc i) (suc j) d (omega arith) (omega arith)) (λ k d below. small (suc k) d (omega arith)))
  where
    by : (b : Bool) → (t.0 == a) ≡ b → unsigned_abs (coef_at terms a) ≤ m → unsigned_abs (cond b t.1 (pos 0) +ℤ coef_at terms a) ≤ m
    by true e rest =
        let same : t.0 ≡ a = eqb-true t.0 a e in
        let none : coef_at terms a ≡ pos 0 = coef_at_none terms a (λ u (k, below, is) equal.
        let less : t.0 < (get_or terms k u).0 = ascending 0 (suc k) u (omega arith) (omega arith) in
        omega (arith, ap (λ (v : ℕ × ℤ). v.0) is)) in
        let first : unsigned_abs t.1 ≤ m = small 0 t (omega arith) in
        omega (arith, sized)
    by false e rest = omega (arith, sized)

-- the first terms of such a row
pub ascending_take : (terms : List (ℕ × ℤ)) (n : ℕ) → AllPairs (λ t u. t.0 < u.0) terms → AllPairs (λ t u. t.0 < u.0) (take n terms)
ascending_take terms n ascending i j d less below =
    let few = length-take n terms in
    rw (get_or-take n terms i d (omega arith), get_or-take n terms j d (omega arith)) (ascending i j d less (omega arith))
