-- Tests of all numbers of a range, and of some, one number after another.
use Rattle.std.proofs.Common.{◌≡◌, ℕ, zero, suc, ◌+◌, ◌<◌, ◌≤◌, Bool, true, false, cond, ◌&&◌, ◌||◌, ◌==◌, not, List, [], ◌∷◌, ◌++◌, length, get_or, take, filter, Contains, ap, refl, sym, ◌∙◌, subst, arith, add-zero, add-one}
use Rattle.std.specs.List.{list_all, list_any, range_with_len}
use Rattle.std.proofs.lemmas.Bool.{and_from, and_parts, true≢false, ne_eqb, eqb-false}
use Rattle.std.proofs.lemmas.List.Folds.{list_any-append}
use Rattle.std.proofs.lemmas.List.Sums.{length-filter, count_by-le-length}
use Rattle.std.proofs.lemmas.List.FromFn.{length-range_with_len, get_or-range_with_len}
use Rattle.wrp_sums.proofs.FirstNumbers.{inside_filter}
use Rattle.wrp_town.proofs.Lists.{range_with_len-more, list_all-at}

or_nothing : (t : Bool) → (t || false) ≡ t
or_nothing true = refl
or_nothing false = refl

-- some number, with the next one
pub any_more : (p : ℕ → Bool) (n : ℕ) → list_any p (range_with_len 0 (n + 1)) ≡ (list_any p (range_with_len 0 n) || p n)
any_more p n =
    ap (list_any p) (range_with_len-more 0 n n (omega arith))
    ∙ list_any-append p (range_with_len 0 n) (n ∷ [])
    ∙ ap (λ (t : Bool). list_any p (range_with_len 0 n) || t) (or_nothing (p n))

all_append : (p : ℕ → Bool) (xs : List ℕ) (y : ℕ) → list_all p xs ≡ true → p y ≡ true → list_all p (xs ++ y ∷ []) ≡ true
all_append p [] y all last = and_from (p y) true last refl
all_append p (x ∷ xs) y all last =
    let parts = and_parts (p x) (list_all p xs) all in
    and_from (p x) (list_all p (xs ++ y ∷ [])) parts.0 (all_append p xs y parts.1 last)

-- all numbers, with the next one
pub all_more : (p : ℕ → Bool) (n : ℕ) → list_all p (range_with_len 0 n) ≡ true → p n ≡ true → list_all p (range_with_len 0 (n + 1)) ≡ true
all_more p n all last = ap (list_all p) (range_with_len-more 0 n n (omega arith)) ∙ all_append p (range_with_len 0 n) n all last

-- one that fails
pub all_broken : (p : ℕ → Bool) (n i : ℕ) → i < n → p i ≡ false → list_all p (range_with_len 0 n) ≡ false
all_broken p n i below fails = by (list_all p (range_with_len 0 n)) refl
  where
    by : (t : Bool) → list_all p (range_with_len 0 n) ≡ t → t ≡ false
    by true all =
        let small : i < length (range_with_len 0 n) = omega (arith, length-range_with_len 0 n) in
        let at : get_or (range_with_len 0 n) i 0 ≡ i = get_or-range_with_len 0 n i 0 below ∙ omega arith in
        absurd (true≢false (sym (subst (λ j. p j ≡ true) at (list_all-at p (range_with_len 0 n) i 0 all small)) ∙ fails))
    by false none = refl

-- all that pass another test
pub all_filter : (p q : ℕ → Bool) (xs : List ℕ) → list_all (λ x. not (q x) || p x) xs ≡ list_all p (filter q xs)
all_filter p q [] = refl
all_filter p q (x ∷ xs) = by (q x) (all_filter p q xs)
  where
    by : (t : Bool) → list_all (λ y. not (q y) || p y) xs ≡ list_all p (filter q xs) → ((not t || p x) && list_all (λ y. not (q y) || p y) xs) ≡ list_all p (cond t (x ∷ filter q xs) (filter q xs))
    by true rest = ap (λ (b : Bool). p x && b) rest
    by false rest = rest

-- marks that are the test of the numbers from a on
pub marks_are_test : (p : ℕ → Bool) (marks : List Bool) (a n : ℕ) → n ≤ length marks → ((i : ℕ) → i < n → get_or marks i false ≡ p (a + i)) → list_all (λ b. b) (take n marks) ≡ list_all p (range_with_len a n)
marks_are_test p marks a zero short are = refl
marks_are_test p [] a (suc n) short are = absurd (omega arith)
marks_are_test p (m ∷ marks) a (suc n) short are =
    let first : m ≡ p a = are 0 (omega arith) ∙ ap p (add-zero a) in
    let rest : list_all (λ b. b) (take n marks) ≡ list_all p (range_with_len (a + 1) n) =
    marks_are_test p marks (a + 1) n (omega arith) (λ i below. are (suc i) (omega arith) ∙ ap p (omega arith)) in
    ap (λ (t : Bool). t && list_all (λ b. b) (take n marks)) first ∙ ap (λ (t : Bool). p a && t) rest

-- ---- as many numbers as places

shorter : (a : ℕ) (xs : List ℕ) → length (filter (λ x. not (x == a)) xs) ≤ length xs
shorter a xs = omega (arith, length-filter (λ (x : ℕ). not (x == a)) xs, count_by-le-length (λ (x : ℕ). not (x == a)) xs)

without : (a : ℕ) (xs : List ℕ) → Contains xs a → length (filter (λ x. not (x == a)) xs) < length xs
without a [] (k, below, is) = absurd (omega arith)
without a (x ∷ xs) (zero, below, is) = by (x == a) refl
  where
    by : (t : Bool) → (x == a) ≡ t → length (cond (not t) (x ∷ filter (λ y. not (y == a)) xs) (filter (λ y. not (y == a)) xs)) < suc (length xs)
    by true e = omega (arith, shorter a xs)
    by false e = absurd (eqb-false x a e is)
without a (x ∷ xs) (suc k, below, is) = by (x == a) (without a xs (k, omega arith, is))
  where
    by : (t : Bool) → length (filter (λ y. not (y == a)) xs) < length xs → length (cond (not t) (x ∷ filter (λ y. not (y == a)) xs) (filter (λ y. not (y == a)) xs)) < suc (length xs)
    by true rest = omega arith
    by false rest = omega arith

-- a list that has each of m numbers has at least m places
pub enough_places : (m : ℕ) (xs : List ℕ) → ((i : ℕ) → i < m → Contains xs (i + 1)) → m ≤ length xs
enough_places zero xs each = omega arith
enough_places (suc m) xs each =
    let rest = enough_places m (filter (λ x. not (x == suc m)) xs) (λ i below. inside_filter (λ x. not (x == suc m)) xs (i + 1) (each i (omega arith)) (ap not (ne_eqb (i + 1) (suc m) (λ e. absurd (omega arith))))) in
    let has : Contains xs (suc m) = subst (Contains xs) (add-one m) (each m (omega arith)) in
    omega (arith, without (suc m) xs has)
