-- Sums of natural numbers below a number.
use Rattle.std.proofs.Common.{◌≡◌, ℕ, zero, suc, ◌+◌, ◌*◌, ◌%◌, ◌<◌, ◌≤◌, Bool, cond, ◌==◌, ap, refl, sym, inl, inr, arith, eq-eqb}
use Rattle.std.proofs.lemmas.Bool.{cases_eq, ne_eqb}
use Rattle.wrp_webs.specs.Webs.{sum_below}

-- as a loop goes on
pub sum_more : (f : ℕ → ℕ) (n : ℕ) → sum_below f (n + 1) ≡ sum_below f n + f n
sum_more f n = let next : n + 1 ≡ suc n = omega arith in ap (sum_below f) next

pub same_sum : (f g : ℕ → ℕ) (n : ℕ) → ((i : ℕ) → i < n → f i ≡ g i) → sum_below f n ≡ sum_below g n
same_sum f g zero same = refl
same_sum f g (suc n) same = omega (arith, same n (omega arith), same_sum f g n (λ i below. same i (omega arith)))

pub least_sum : (f g : ℕ → ℕ) (n : ℕ) → ((i : ℕ) → i < n → f i ≤ g i) → sum_below f n ≤ sum_below g n
least_sum f g zero least = omega arith
least_sum f g (suc n) least = omega (arith, least n (omega arith), least_sum f g n (λ i below. least i (omega arith)))

pub sum_of_sums : (f g : ℕ → ℕ) (n : ℕ) → sum_below (λ i. f i + g i) n ≡ sum_below f n + sum_below g n
sum_of_sums f g zero = refl
sum_of_sums f g (suc n) = omega (arith, sum_of_sums f g n)

pub zero_sum : (f : ℕ → ℕ) (n : ℕ) → ((i : ℕ) → i < n → f i ≡ 0) → sum_below f n ≡ 0
zero_sum f zero none = refl
zero_sum f (suc n) none = omega (arith, none n (omega arith), zero_sum f n (λ i below. none i (omega arith)))

pub scaled_sum : (k : ℕ) (f : ℕ → ℕ) (n : ℕ) → sum_below (λ i. k * f i) n ≡ k * sum_below f n
scaled_sum k f zero = omega arith
scaled_sum k f (suc n) = omega (arith, scaled_sum k f n)

pub sum_exchange : (f : ℕ → ℕ → ℕ) (m n : ℕ) → sum_below (λ i. sum_below (λ j. f i j) n) m ≡ sum_below (λ j. sum_below (λ i. f i j) m) n
sum_exchange f zero n = sym (zero_sum (λ j. 0) n (λ j below. refl))
sum_exchange f (suc m) n = omega (arith, sum_exchange f m n, sum_of_sums (λ j. sum_below (λ i. f i j) m) (λ j. f m j) n)

-- the term at k alone
pub sum_single : (f : ℕ → ℕ) (k n : ℕ) → k < n → sum_below (λ i. cond (k == i) (f i) 0) n ≡ f k
sum_single f k zero below = absurd (omega arith)
sum_single f k (suc n) below =
    elim (cases_eq k n) [
      | inl here ↦ omega (
        arith,
        zero_sum (λ i. cond (k == i) (f i) 0) n (λ i less. ap (λ (b : Bool). cond b (f i) 0) (ne_eqb k i (λ e. absurd (omega arith)))),
        ap (λ (b : Bool). cond b (f n) 0) (eq-eqb k n here),
        ap f here,
      )
      | inr there ↦ omega (arith, sum_single f k n (omega arith), ap (λ (b : Bool). cond b (f n) 0) (ne_eqb k n there))
    ]

-- an odd sum has an odd term
pub odd_term : (f : ℕ → ℕ) (n : ℕ) → sum_below f n % 2 ≡ 1 → (i : ℕ) × (i < n) × (f i % 2 ≡ 1)
odd_term f zero odd = absurd (omega arith)
odd_term f (suc n) odd =
    elim (cases_eq (f n % 2) 1) [
      | inl here ↦ (n, omega arith, here)
      | inr there ↦ (let rest = odd_term f n (omega arith) in (rest.0, omega arith, rest.2))
    ]

-- a term is at most the sum
pub term_sum : (f : ℕ → ℕ) (k n : ℕ) → k < n → f k ≤ sum_below f n
term_sum f k zero below = absurd (omega arith)
term_sum f k (suc n) below = elim (cases_eq k n) [ inl here ↦ omega (arith, ap f here) | inr there ↦ omega (arith, term_sum f k n (omega arith)) ]
