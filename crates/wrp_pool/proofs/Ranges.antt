-- Tests of the numbers of a range, one after another.
use Rattle.std.proofs.Common.{◌≡◌, ℕ, zero, suc, if◌then◌else◌, ◌+◌, ◌<◌, ◌≤◌, Bool, true, false, not, ◌||◌, ◌==◌, List, [], ◌∷◌, length, filter, Contains, ap, refl, ◌∙◌, arith}
use Rattle.std.specs.List.{list_all, list_any, range_with_len}
use Rattle.std.proofs.lemmas.Bool.{and_from, ne_eqb, eq-eqb, true≢false}
use Rattle.std.proofs.lemmas.List.Folds.{list_all-append, list_any-append, list_all_at}
use Rattle.std.proofs.lemmas.List.FromFn.{length-range_with_len, get_or-range_with_len}
use Rattle.std.proofs.lemmas.List.Sums.{length-filter, count_by-le-length}
use Rattle.wrp_sums.proofs.FirstNumbers.{inside_filter}
use Rattle.wrp_town.proofs.Lists.{range_with_len-more}

-- one number more passes
pub all_more_from : (p : ℕ → Bool) (a n j : ℕ) → a + n ≡ j → list_all p (range_with_len a n) ≡ true → p j ≡ true → list_all p (range_with_len a (n + 1)) ≡ true
all_more_from p a n j next so_far passes =
    ap (list_all p) (range_with_len-more a n j next) ∙ list_all-append p (range_with_len a n) (j ∷ []) ∙ and_from _ _ so_far (and_from _ _ passes refl)

pub all_more : (p : ℕ → Bool) (n : ℕ) → list_all p (range_with_len 0 n) ≡ true → p n ≡ true → list_all p (range_with_len 0 (n + 1)) ≡ true
all_more p n so_far passes = all_more_from p 0 n n (omega arith) so_far passes

-- one doesn't
pub not_all_from : (p : ℕ → Bool) (a n i : ℕ) → i < n → p (a + i) ≡ false → list_all p (range_with_len a n) ≡ false
not_all_from p a n i below fails =
    list_all_at p (range_with_len a n) i 0 (omega (arith, length-range_with_len a n)) (ap p (get_or-range_with_len a n i 0 below) ∙ fails)

pub not_all : (p : ℕ → Bool) (n i : ℕ) → i < n → p i ≡ false → list_all p (range_with_len 0 n) ≡ false
not_all p n i below fails = not_all_from p 0 n i below (ap p (omega arith) ∙ fails)

-- some of the numbers or one more
pub any_more : (p : ℕ → Bool) (n : ℕ) → list_any p (range_with_len 0 (n + 1)) ≡ (list_any p (range_with_len 0 n) || p n)
any_more p n =
    ap (list_any p) (range_with_len-more 0 n n (omega arith)) ∙ list_any-append p (range_with_len 0 n) (n ∷ []) ∙ ap (λ (t : Bool). list_any p (range_with_len 0 n) || t) (by (p n))
  where
    by : (t : Bool) → (t || false) ≡ t
    by true = refl
    by false = refl

-- ---- a list that has each of the first numbers

-- without a member that fails a list is shorter
shorter : (p : ℕ → Bool) (xs : List ℕ) (x : ℕ) → Contains xs x → p x ≡ false → length (filter p xs) < length xs
shorter p [] x (k, below, is) fails = absurd (omega arith)
shorter p (y ∷ xs) x (zero, below, is) fails = by (p y) (ap p is ∙ fails)
  where
    by : (t : Bool) → t ≡ false → length (if t then y ∷ filter p xs else filter p xs) < suc (length xs)
    by true e = absurd (true≢false e)
    by false e = omega (arith, length-filter p xs, count_by-le-length p xs)
shorter p (y ∷ xs) x (suc k, below, is) fails = by (p y) (shorter p xs x (k, omega arith, is) fails)
  where
    by : (t : Bool) → length (filter p xs) < length xs → length (if t then y ∷ filter p xs else filter p xs) < suc (length xs)
    by true less = omega (arith, less)
    by false less = omega (arith, less)

-- it is as long as they are many
pub as_long : (n : ℕ) (xs : List ℕ) → ((i : ℕ) → 1 ≤ i → i ≤ n → Contains xs i) → n ≤ length xs
as_long zero xs each = omega arith
as_long (suc n) xs each =
    let others = filter (λ x. not (x == suc n)) xs in
    let less : length others < length xs = shorter (λ x. not (x == suc n)) xs (suc n) (each (suc n) (omega arith) (omega arith)) (ap not (eq-eqb (suc n) (suc n) refl)) in
    let rest : n ≤ length others = as_long n others (λ i from to. inside_filter (λ x. not (x == suc n)) xs i (each i from (omega arith)) (ap not (ne_eqb i (suc n) (λ e. absurd (omega (arith, e, to)))))) in
    omega arith
