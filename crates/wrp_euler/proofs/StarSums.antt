-- Sums over a list, over a range, and over the numbers of a range that pass two tests, as the arcs of a star do.
use Rattle.std.proofs.Common.{◌≡◌, ℕ, zero, suc, ◌+◌, ◌<◌, ◌≤◌, Bool, true, false, cond, ◌==◌, List, [], ◌∷◌, length, get_or, sum, ap, refl, sym, ◌∙◌, inl, inr, arith, eq-eqb, zero-add}
use Rattle.std.specs.Prelude.{slice_index}
use Rattle.std.specs.List.{sum_by, filter, range_with_len}
use Rattle.std.proofs.Math.Nat.{eq-or-lt_of_le}
use Rattle.std.proofs.lemmas.Bool.{ne_eqb}
use Rattle.std.proofs.lemmas.List.Sums.{sum_by-cons, sum-map, sum_by-le-sum_by, get_or-le-sum_by}
use Rattle.std.proofs.lemmas.List.Elements.{All-filter, filter_passes}
use Rattle.std.proofs.lemmas.List.FromFn.{length-range_with_len, get_or-range_with_len, fill_by_all}

-- ---- sums over a list

pub sum_by_same : {X : Type 0} (f g : X → ℕ) (xs : List X) → ((x : X) → f x ≡ g x) → sum_by f xs ≡ sum_by g xs
sum_by_same f g xs same =
    omega (arith, sum_by-le-sum_by f g xs (λ x. omega (arith, same x)), sum_by-le-sum_by g f xs (λ x. omega (arith, same x)))

pub sum_by_plus : {X : Type 0} (f g : X → ℕ) (xs : List X) → sum_by (λ x. f x + g x) xs ≡ sum_by f xs + sum_by g xs
sum_by_plus f g [] = refl
sum_by_plus f g (x ∷ xs) =
    omega (arith, sum_by-cons (λ x. f x + g x) x xs, sum_by-cons f x xs, sum_by-cons g x xs, sum_by_plus f g xs)

pub sum_by_none : {X : Type 0} (f : X → ℕ) (xs : List X) → ((x : X) → f x ≡ 0) → sum_by f xs ≡ 0
sum_by_none f [] none = refl
sum_by_none f (x ∷ xs) none = omega (arith, sum_by-cons f x xs, none x, sum_by_none f xs none)

sum_by_pick : {X : Type 0} (f : X → ℕ) (t : Bool) (x : X) (xs : List X) → sum_by f (cond t (x ∷ xs) xs) ≡ cond t (f x) 0 + sum_by f xs
sum_by_pick f true x xs = sum_by-cons f x xs
sum_by_pick f false x xs = omega arith

pub sum_by_filter : {X : Type 0} (p : X → Bool) (f : X → ℕ) (xs : List X) → sum_by f (filter p xs) ≡ sum_by (λ x. cond (p x) (f x) 0) xs
sum_by_filter p f [] = refl
sum_by_filter p f (x ∷ xs) =
    omega (arith, sum_by_pick f (p x) x (filter p xs), sum_by-cons (λ x. cond (p x) (f x) 0) x xs, sum_by_filter p f xs)

-- ---- sums over a range

range_none : (f : ℕ → ℕ) (i n : ℕ) → ((x : ℕ) → i ≤ x → f x ≡ 0) → sum_by f (range_with_len i n) ≡ 0
range_none f i zero none = refl
range_none f i (suc n) none =
    omega (arith, sum_by-cons f i (range_with_len (i + 1) n), none i (omega arith), range_none f (i + 1) n (λ x above. none x (omega arith)))

-- where all terms but one are 0
range_one : (f : ℕ → ℕ) (b i n : ℕ) → i ≤ b → b < i + n → ((x : ℕ) → (x ≡ b → ⊥) → f x ≡ 0) → sum_by f (range_with_len i n) ≡ f b
range_one f b i zero above below others = absurd (omega arith)
range_one f b i (suc n) above below others =
    elim (eq-or-lt_of_le above) [
      | inl same ↦ omega (arith, sum_by-cons f i (range_with_len (i + 1) n), ap f same, range_none f (i + 1) n (λ x more. others x (λ is. omega arith)))
      | inr less ↦ omega (arith, sum_by-cons f i (range_with_len (i + 1) n), others i (λ is. omega arith), range_one f b (i + 1) n (omega arith) (omega arith) others)
    ]

-- the items of a list, by their places
pub range_all : (xs : List ℕ) → sum_by (slice_index xs) (range_with_len 0 (length xs)) ≡ sum xs
range_all xs =
    sym (sum-map (slice_index xs) (range_with_len 0 (length xs)))
    ∙ ap sum (sym (fill_by_all (slice_index xs) xs (length xs) 0 refl (λ k below. refl)))

-- ---- sums over a star

cond_at_most : (t : Bool) (n : ℕ) → cond t n 0 ≤ n
cond_at_most true n = omega arith
cond_at_most false n = omega arith

cond_none : (t : Bool) (n : ℕ) → n ≡ 0 → cond t n 0 ≡ 0
cond_none true n none = none
cond_none false n none = refl

module _ (p q : ℕ → Bool) (m : ℕ) where
  abbrev pub star : List ℕ
  star = filter q (filter p (range_with_len 0 m))

  star_sum : (f : ℕ → ℕ) → sum_by f star ≡ sum_by (λ x. cond (p x) (cond (q x) (f x) 0) 0) (range_with_len 0 m)
  star_sum f = sum_by_filter q f (filter p (range_with_len 0 m)) ∙ sum_by_filter p (λ x. cond (q x) (f x) 0) (range_with_len 0 m)

  pub star_at_most : (f : ℕ → ℕ) → sum_by f star ≤ sum_by f (range_with_len 0 m)
  star_at_most f =
      let least : (x : ℕ) → cond (p x) (cond (q x) (f x) 0) 0 ≤ f x = λ x. omega (arith, cond_at_most (p x) (cond (q x) (f x) 0), cond_at_most (q x) (f x)) in
      omega (arith, star_sum f, sum_by-le-sum_by (λ x. cond (p x) (cond (q x) (f x) 0) 0) f (range_with_len 0 m) least)

  -- a number that passes is in the star once
  pub star_one : (b : ℕ) → b < m → p b ≡ true → sum_by (λ x. cond (b == x) 1 0) star ≡ cond (q b) 1 0
  star_one b below passes =
      star_sum (λ x. cond (b == x) 1 0)
      ∙ range_one (λ x. cond (p x) (cond (q x) (cond (b == x) 1 0) 0) 0) b 0 m (omega arith) (omega arith)
      (λ x differs. cond_none (p x) _ (cond_none (q x) _ (ap (λ t. cond t 1 0) (ne_eqb b x (λ same. differs (sym same))))))
      ∙ ap (λ t. cond t (cond (q b) (cond (b == b) 1 0) 0) 0) passes
      ∙ ap (λ t. cond (q b) (cond t 1 0) 0) (eq-eqb b b refl)

  pub star_term : (f : ℕ → ℕ) (b : ℕ) → b < m → p b ≡ true → q b ≡ true → f b ≤ sum_by f star
  star_term f b below first second =
      let g : ℕ → ℕ = λ x. cond (p x) (cond (q x) (f x) 0) 0 in
      let here : g b ≡ f b = ap (λ t. cond t (cond (q b) (f b) 0) 0) first ∙ ap (λ t. cond t (f b) 0) second in
      omega (
        arith,
        star_sum f,
        here,
        ap g (get_or-range_with_len 0 m b 0 below ∙ zero-add b),
        get_or-le-sum_by g (range_with_len 0 m) b 0 (omega (arith, length-range_with_len 0 m)),
      )

  pub star_first : (k : ℕ) → k < length star → p (get_or star k 0) ≡ true
  star_first k below = All-filter q (λ x. p x ≡ true) (filter p (range_with_len 0 m)) (filter_passes p (range_with_len 0 m)) k 0 below

  pub star_second : (k : ℕ) → k < length star → q (get_or star k 0) ≡ true
  star_second k below = filter_passes q (filter p (range_with_len 0 m)) k 0 below

  -- where all in it are 0, so is the sum
  pub star_none : (f : ℕ → ℕ) → ((k : ℕ) → k < length star → f (get_or star k 0) ≡ 0) → sum_by f star ≡ 0
  star_none f none = list_none star none
    where
      list_none : (xs : List ℕ) → ((k : ℕ) → k < length xs → f (get_or xs k 0) ≡ 0) → sum_by f xs ≡ 0
      list_none [] none = refl
      list_none (x ∷ xs) none = omega (arith, sum_by-cons f x xs, none 0 (omega arith), list_none xs (λ k below. none (suc k) (omega arith)))
