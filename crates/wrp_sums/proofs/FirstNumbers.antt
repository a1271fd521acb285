-- Laws of `numbers_below`, of those that pass a test, and of sums over them.
use Rattle.std.proofs.Common.{◌≡◌, ℕ, zero, suc, ◌+◌, ◌<◌, Bool, true, false, cond, ◌==◌, ◌≢◌, AllPairs, ℤ, pos, ◌+ℤ◌, List, [], ◌∷◌, length, get_or, filter, Contains, count_by, ap, refl, sym, ◌∙◌, subst, ⊎_elim, arith, add-one, eq-or-lt_of_le, length-append}
use Rattle.std.proofs.lemmas.List.{get_or_append_left}
use Rattle.std.proofs.lemmas.List.Elements.{Contains-get_or, All-contains, filter_passes}
use Rattle.std.proofs.lemmas.List.Kept.{AllPairs-filter}
use Rattle.std.proofs.Math.Seq.{get_or-append_seam}
use Rattle.wrp_sums.specs.Sums.{sum_over, numbers_below}
use Rattle.wrp_sums.proofs.SumsOver.{sum_over-push, sum_over-filter, inside_head, inside_tail, count_once}

pub length-numbers_below : (n : ℕ) → length (numbers_below n) ≡ n
length-numbers_below zero = refl
length-numbers_below (suc n) = length-append (numbers_below n) (n ∷ []) ∙ rw (length-numbers_below n) (omega arith)

-- the number at place i is i
pub get_or-numbers_below : (n i d : ℕ) → i < n → get_or (numbers_below n) i d ≡ i
get_or-numbers_below zero i d below = absurd (omega arith)
get_or-numbers_below (suc n) i d below =
    let long = length-numbers_below n in
    let rest = get_or-numbers_below n i d in
    ⊎_elim
    (λ (same : i ≡ n). rw same (let at_end = get_or-append_seam (numbers_below n) n [] d in rw long at at_end))
    (λ (less : i < n). get_or_append_left (numbers_below n) (n ∷ []) d i (omega arith) ∙ rest less)
    (eq-or-lt_of_le (omega arith))

-- the members are the numbers below n
pub inside_numbers_below : (n i : ℕ) → i < n → Contains (numbers_below n) i
inside_numbers_below n i below =
    subst (Contains (numbers_below n)) (get_or-numbers_below n i 0 below)
    (Contains-get_or (numbers_below n) i 0 (rw (length-numbers_below n) below))

pub below_of_inside : (n i : ℕ) → Contains (numbers_below n) i → i < n
below_of_inside n i (k, below, is) =
    let short : k < n = rw (length-numbers_below n) at below in
    let at_k = get_or-numbers_below n k i short in
    omega arith

-- and each stands once
pub ascending-numbers_below : (n : ℕ) → AllPairs (λ x y. x < y) (numbers_below n)
ascending-numbers_below n i j d less below =
    let short : j < n = rw (length-numbers_below n) at below in
    rw (get_or-numbers_below n i d (omega arith), get_or-numbers_below n j d short) less

pub distinct_of_ascending : (xs : List ℕ) → AllPairs (λ x y. x < y) xs → AllPairs (λ x y. x ≢ y) xs
distinct_of_ascending xs all i j d less below same = let h = all i j d less below in omega arith

-- ---- the members of a list that pass a test

-- a member that passes is kept
pub inside_filter : (p : ℕ → Bool) (xs : List ℕ) (x : ℕ) → Contains xs x → p x ≡ true → Contains (filter p xs) x
inside_filter p [] x (k, below, is) passes = absurd (omega arith)
inside_filter p (y ∷ xs) x (zero, below, is) passes =
    rw (ap p is ∙ passes) (subst (λ z. Contains (y ∷ filter p xs) z) is (inside_head y (filter p xs)))
inside_filter p (y ∷ xs) x (suc k, below, is) passes =
    by (p y) (inside_filter p xs x (k, omega arith, is) passes)
  where
    by : (t : Bool) → Contains (filter p xs) x → Contains (cond t (y ∷ filter p xs) (filter p xs)) x
    by true rest = inside_tail y (filter p xs) x rest
    by false rest = rest

-- what is kept passes
pub passes_of_inside : (p : ℕ → Bool) (xs : List ℕ) (x : ℕ) → Contains (filter p xs) x → p x ≡ true
passes_of_inside p xs x inside = All-contains (λ y. p y ≡ true) (filter p xs) x (filter_passes p xs) inside

-- the numbers below n that pass a test stand once each
pub once_below : (p : ℕ → Bool) (n a : ℕ) → a < n → p a ≡ true → count_by (λ x. x == a) (filter p (numbers_below n)) ≡ 1
once_below p n a below passes =
    count_once a (filter p (numbers_below n))
    (distinct_of_ascending (filter p (numbers_below n)) (AllPairs-filter (λ x y. x < y) p (numbers_below n) (ascending-numbers_below n)))
    (inside_filter p (numbers_below n) a (inside_numbers_below n a below) passes)

-- ---- sums, as a loop goes through the numbers

pub sum_below_more : (f : ℕ → ℤ) (i : ℕ) → sum_over f (numbers_below (i + 1)) ≡ sum_over f (numbers_below i) +ℤ f i
sum_below_more f i = rw add-one (sum_over-push f (numbers_below i) i)

-- the same over the numbers that pass a test
pub sum_passing_more : (f : ℕ → ℤ) (p : ℕ → Bool) (i : ℕ) → sum_over f (filter p (numbers_below (i + 1))) ≡ sum_over f (filter p (numbers_below i)) +ℤ cond (p i) (f i) (pos 0)
sum_passing_more f p i =
    sum_over-filter f p (numbers_below (i + 1)) ∙ sum_below_more (λ x. cond (p x) (f x) (pos 0)) i
    ∙ ap (λ (z : ℤ). z +ℤ cond (p i) (f i) (pos 0)) (sym (sum_over-filter f p (numbers_below i)))
