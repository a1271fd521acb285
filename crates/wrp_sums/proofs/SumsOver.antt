-- Laws of `sum_over`. A premise on the members alone is `(x : X) → Contains xs x → ..`, at a call `λ x inside. ..`; from an `All P xs` it is `λ x inside. All-contains P xs x all inside`.
use Rattle.std.proofs.Common.{◌≡◌, ℕ, zero, suc, ◌+◌, ◌*◌, ◌≤◌, ◌<◌, Bool, true, false, cond, ◌&&◌, ◌==◌, ◌≢◌, AllPairs, ℤ, pos, ◌+ℤ◌, ◌*ℤ◌, ◌≤ℤ◌, unsigned_abs, List, [], ◌∷◌, ◌++◌, map, length, get_or, take, filter, Contains, sum_by, count_by, ap, refl, sym, ◌∙◌, arith, eq-eqb}
use Rattle.std.proofs.lemmas.Bool.{eqb-true, eqb-false, ne_eqb, false_from_ne_true, true≢false}
use Rattle.std.specs.List.{list_all}
use Rattle.std.proofs.lemmas.List.{take_more}
use Rattle.std.proofs.lemmas.List.Elements.{All-contains}
use Rattle.std.proofs.lemmas.List.Sums.{sum_by-cons, AllPass-from_list_all}
use Rattle.std.proofs.lemmas.Int.{ints}
use Rattle.wrp_sums.specs.Sums.{sum_over}
use Rattle.wrp_sums.proofs.Integers.{linear, sized, *ℤ-+ℤ, +ℤ-*ℤ}

-- ---- members

pub inside_head : {X : Type 0} (x : X) (xs : List X) → Contains (x ∷ xs) x
inside_head x xs = (0, omega arith, refl)

pub inside_tail : {X : Type 0} (x : X) (xs : List X) (y : X) → Contains xs y → Contains (x ∷ xs) y
inside_tail x xs y (k, below, is) = (suc k, omega arith, is)

-- what holds of the members of x ∷ xs holds of those of xs
pub for_tail : {X : Type 0} (P : X → Type 0) (x : X) (xs : List X) → ((y : X) → Contains (x ∷ xs) y → P y) → (y : X) → Contains xs y → P y
for_tail P x xs all y inside = all y (inside_tail x xs y inside)

-- a test that each member passes
pub passes_inside : {X : Type 0} (p : X → Bool) (xs : List X) → list_all p xs ≡ true → (x : X) → Contains xs x → p x ≡ true
passes_inside p xs all x inside = All-contains (λ y. p y ≡ true) xs x (AllPass-from_list_all p xs all) inside

-- two tests that agree at each member
pub list_all-same : {X : Type 0} (p q : X → Bool) (xs : List X) → ((x : X) → Contains xs x → p x ≡ q x) → list_all p xs ≡ list_all q xs
list_all-same p q [] same = refl
list_all-same p q (x ∷ xs) same =
    let first : p x ≡ q x = same x (inside_head x xs) in
    let rest : list_all p xs ≡ list_all q xs = list_all-same p q xs (λ y inside. same y (inside_tail x xs y inside)) in
    ap (λ (t : Bool). t && list_all p xs) first ∙ ap (λ (t : Bool). q x && t) rest

-- ---- laws of sums

module _ {X : Type 0} where
  pub sum_over-+ℤ : (f g : X → ℤ) (xs : List X) → sum_over (λ x. f x +ℤ g x) xs ≡ sum_over f xs +ℤ sum_over g xs
  sum_over-+ℤ f g [] = refl
  sum_over-+ℤ f g (x ∷ xs) = omega (arith, linear, sum_over-+ℤ f g xs)

  pub sum_over-*ℤ : (a : ℤ) (f : X → ℤ) (xs : List X) → sum_over (λ x. a *ℤ f x) xs ≡ a *ℤ sum_over f xs
  sum_over-*ℤ a f [] = omega (arith, ints)
  sum_over-*ℤ a f (x ∷ xs) = omega (arith, linear, sum_over-*ℤ a f xs, *ℤ-+ℤ a (f x) (sum_over f xs))

  -- the same, with the factor on the right
  pub sum_over-*ℤ_right : (f : X → ℤ) (a : ℤ) (xs : List X) → sum_over (λ x. f x *ℤ a) xs ≡ sum_over f xs *ℤ a
  sum_over-*ℤ_right f a [] = omega (arith, ints)
  sum_over-*ℤ_right f a (x ∷ xs) = omega (arith, linear, sum_over-*ℤ_right f a xs, +ℤ-*ℤ (f x) (sum_over f xs) a)

  pub sum_over-zero : (xs : List X) → sum_over (λ x. pos 0) xs ≡ pos 0
  sum_over-zero [] = refl
  sum_over-zero (x ∷ xs) = omega (arith, linear, sum_over-zero xs)

  -- the same term at each member
  pub sum_over-same : (f g : X → ℤ) (xs : List X) → ((x : X) → Contains xs x → f x ≡ g x) → sum_over f xs ≡ sum_over g xs
  sum_over-same f g [] all = refl
  sum_over-same f g (x ∷ xs) all =
      omega (arith, linear, all x (inside_head x xs), sum_over-same f g xs (for_tail (λ y. f y ≡ g y) x xs all))

  -- the same term everywhere
  pub sum_over-ext : (f g : X → ℤ) → ((x : X) → f x ≡ g x) → (xs : List X) → sum_over f xs ≡ sum_over g xs
  sum_over-ext f g all xs = sum_over-same f g xs (λ x inside. all x)

  pub sum_over-≤ℤ : (f g : X → ℤ) (xs : List X) → ((x : X) → Contains xs x → f x ≤ℤ g x) → sum_over f xs ≤ℤ sum_over g xs
  sum_over-≤ℤ f g [] all = omega (arith, linear)
  sum_over-≤ℤ f g (x ∷ xs) all =
      omega (arith, linear, all x (inside_head x xs), sum_over-≤ℤ f g xs (for_tail (λ y. f y ≤ℤ g y) x xs all))

  -- each term is 0
  pub sum_over-all_zero : (f : X → ℤ) (xs : List X) → ((x : X) → Contains xs x → f x ≡ pos 0) → sum_over f xs ≡ pos 0
  sum_over-all_zero f xs all = sum_over-same f (λ x. pos 0) xs all ∙ sum_over-zero xs

  pub sum_over-at_least_zero : (f : X → ℤ) (xs : List X) → ((x : X) → Contains xs x → pos 0 ≤ℤ f x) → pos 0 ≤ℤ sum_over f xs
  sum_over-at_least_zero f xs all = omega (arith, linear, sum_over-zero xs, sum_over-≤ℤ (λ x. pos 0) f xs all)

  pub sum_over-append : (f : X → ℤ) (xs ys : List X) → sum_over f (xs ++ ys) ≡ sum_over f xs +ℤ sum_over f ys
  sum_over-append f [] ys = omega (arith, linear)
  sum_over-append f (x ∷ xs) ys = omega (arith, linear, sum_over-append f xs ys)

  pub sum_over-push : (f : X → ℤ) (xs : List X) (y : X) → sum_over f (xs ++ y ∷ []) ≡ sum_over f xs +ℤ f y
  sum_over-push f xs y = omega (arith, linear, sum_over-append f xs (y ∷ []))

  -- one more element, as a loop adds it
  pub sum_over_more : (f : X → ℤ) (xs : List X) (i : ℕ) (d : X) → i < length xs → sum_over f (take (i + 1) xs) ≡ sum_over f (take i xs) +ℤ f (get_or xs i d)
  sum_over_more f xs i d below = ap (sum_over f) (take_more xs i d below) ∙ sum_over-push f (take i xs) (get_or xs i d)

  -- a sum over the members that pass a test
  pub sum_over-filter : (f : X → ℤ) (p : X → Bool) (xs : List X) → sum_over f (filter p xs) ≡ sum_over (λ x. cond (p x) (f x) (pos 0)) xs
  sum_over-filter f p [] = refl
  sum_over-filter f p (x ∷ xs) = by (sum_over-filter f p xs) (p x)
    where
      by : sum_over f (filter p xs) ≡ sum_over (λ y. cond (p y) (f y) (pos 0)) xs → (t : Bool) → sum_over f (cond t (x ∷ filter p xs) (filter p xs)) ≡ cond t (f x) (pos 0) +ℤ sum_over (λ y. cond (p y) (f y) (pos 0)) xs
      by rest true = omega (arith, linear)
      by rest false = omega (arith, linear)

  -- a sum of numbers that are not negative
  pub sum_over-pos : (f : X → ℕ) (xs : List X) → sum_over (λ x. pos (f x)) xs ≡ pos (sum_by f xs)
  sum_over-pos f [] = refl
  sum_over-pos f (x ∷ xs) = omega (arith, linear, sum_over-pos f xs, sum_by-cons f x xs)

  -- how many pass a test
  pub sum_over-count : (p : X → Bool) (xs : List X) → sum_over (λ x. cond (p x) (pos 1) (pos 0)) xs ≡ pos (count_by p xs)
  sum_over-count p xs =
      sum_over-ext (λ x. cond (p x) (pos 1) (pos 0)) (λ x. pos (cond (p x) 1 0)) (λ x. by (p x)) xs
      ∙ sum_over-pos (λ x. cond (p x) 1 0) xs
    where
      by : (t : Bool) → cond t (pos 1) (pos 0) ≡ pos (cond t 1 0)
      by true = refl
      by false = refl

  pub size_of_sum_over : (f : X → ℤ) (m : ℕ) (xs : List X) → ((x : X) → Contains xs x → unsigned_abs (f x) ≤ m) → unsigned_abs (sum_over f xs) ≤ length xs * m
  size_of_sum_over f m [] all = omega arith
  size_of_sum_over f m (x ∷ xs) all =
      omega (arith, sized, all x (inside_head x xs), size_of_sum_over f m xs (for_tail (λ y. unsigned_abs (f y) ≤ m) x xs all))

module _ {X Y : Type 0} where
  pub sum_over-map : (f : Y → ℤ) (g : X → Y) (xs : List X) → sum_over f (map g xs) ≡ sum_over (λ x. f (g x)) xs
  sum_over-map f g [] = refl
  sum_over-map f g (x ∷ xs) = omega (arith, linear, sum_over-map f g xs)

  -- two sums, exchanged
  pub sum_over_exchange : (f : X → Y → ℤ) (xs : List X) (ys : List Y) → sum_over (λ x. sum_over (λ y. f x y) ys) xs ≡ sum_over (λ y. sum_over (λ x. f x y) xs) ys
  sum_over_exchange f [] ys = sym (sum_over-zero ys)
  sum_over_exchange f (x ∷ xs) ys =
      omega (arith, linear, sum_over_exchange f xs ys, sum_over-+ℤ (λ y. f x y) (λ y. sum_over (λ z. f z y) xs) ys)

-- ---- one number of a list

-- the terms at a alone
pub sum_over_at : (f : ℕ → ℤ) (a : ℕ) (xs : List ℕ) → sum_over (λ x. cond (x == a) (f x) (pos 0)) xs ≡ pos (count_by (λ x. x == a) xs) *ℤ f a
sum_over_at f a xs =
    sum_over-ext (λ x. cond (x == a) (f x) (pos 0)) (λ x. cond (x == a) (pos 1) (pos 0) *ℤ f a) (λ x. by x (x == a) refl) xs
    ∙ sum_over-*ℤ_right (λ x. cond (x == a) (pos 1) (pos 0)) (f a) xs
    ∙ ap (λ (z : ℤ). z *ℤ f a) (sum_over-count (λ x. x == a) xs)
  where
    by : (x : ℕ) (t : Bool) → (x == a) ≡ t → cond t (f x) (pos 0) ≡ cond t (pos 1) (pos 0) *ℤ f a
    by x true e = ap f (eqb-true x a e) ∙ omega (arith, ints)
    by x false e = omega (arith, ints)

-- the single term at a, where a stands once
pub sum_over_single : (f : ℕ → ℤ) (a : ℕ) (xs : List ℕ) → count_by (λ x. x == a) xs ≡ 1 → sum_over (λ x. cond (x == a) (f x) (pos 0)) xs ≡ f a
sum_over_single f a xs once =
    sum_over_at f a xs ∙ ap (λ (n : ℕ). pos n *ℤ f a) once ∙ omega (arith, ints)

-- a sum whose other terms are 0, where a stands once
pub sum_over_only : (f : ℕ → ℤ) (a : ℕ) (xs : List ℕ) → count_by (λ x. x == a) xs ≡ 1 → ((x : ℕ) → Contains xs x → (x ≡ a → ⊥) → f x ≡ pos 0) → sum_over f xs ≡ f a
sum_over_only f a xs once others =
    sum_over-same f (λ x. cond (x == a) (f x) (pos 0)) xs (λ x inside. by x inside (x == a) refl)
    ∙ sum_over_single f a xs once
  where
    by : (x : ℕ) → Contains xs x → (t : Bool) → (x == a) ≡ t → f x ≡ cond t (f x) (pos 0)
    by x inside true e = refl
    by x inside false e = others x inside (eqb-false x a e)

-- how often a number stands that is not there
pub count_none : (a : ℕ) (xs : List ℕ) → (Contains xs a → ⊥) → count_by (λ x. x == a) xs ≡ 0
count_none a [] absent = refl
count_none a (x ∷ xs) absent =
    let differs : (x == a) ≡ false = ne_eqb x a (λ e. absent (0, omega arith, e)) in
    let rest : count_by (λ y. y == a) xs ≡ 0 = count_none a xs (λ inside. absent (inside_tail x xs a inside)) in
    sum_by-cons (λ y. cond (y == a) 1 0) x xs ∙ rw differs (omega arith)

-- a member of a list of distinct numbers stands in it once
pub count_once : (a : ℕ) (xs : List ℕ) → AllPairs (λ x y. x ≢ y) xs → Contains xs a → count_by (λ x. x == a) xs ≡ 1
count_once a [] distinct (k, below, is) = absurd (omega arith)
count_once a (x ∷ xs) distinct (zero, below, is) =
    let same : (x == a) ≡ true = eq-eqb x a is in
    let rest : count_by (λ y. y == a) xs ≡ 0 = count_none a xs (λ (k, under, there). distinct 0 (suc k) a (omega arith) (omega arith) (is ∙ sym there)) in
    sum_by-cons (λ y. cond (y == a) 1 0) x xs ∙ rw same (omega arith)
count_once a (x ∷ xs) distinct (suc k, below, is) =
    let differs : (x == a) ≡ false = ne_eqb x a (λ e. distinct 0 (suc k) a (omega arith) below (e ∙ sym is)) in
    let rest : count_by (λ y. y == a) xs ≡ 1 = count_once a xs (λ i j d under short. distinct (suc i) (suc j) d (omega arith) (omega arith)) (k, omega arith, is) in
    sum_by-cons (λ y. cond (y == a) 1 0) x xs ∙ rw differs (omega arith)

-- the count of a, where x is put before both lists, and before the first only if it passes the test
count_step : (a x : ℕ) (u v : Bool) (ys zs : List ℕ) → ((x == a) ≡ true → u ≡ v) → count_by (λ y. y == a) ys ≡ cond v (count_by (λ y. y == a) zs) 0 → count_by (λ y. y == a) (cond u (x ∷ ys) ys) ≡ cond v (count_by (λ y. y == a) (x ∷ zs)) 0
count_step a x true true ys zs same rest =
    sum_by-cons (λ y. cond (y == a) 1 0) x ys ∙ ap (λ (n : ℕ). cond (x == a) 1 0 + n) rest ∙ sym (sum_by-cons (λ y. cond (y == a) 1 0) x zs)
count_step a x true false ys zs same rest =
    let differs : (x == a) ≡ false = false_from_ne_true (x == a) (λ e. true≢false (same e)) in
    sum_by-cons (λ y. cond (y == a) 1 0) x ys ∙ rw differs (omega arith)
count_step a x false true ys zs same rest =
    let differs : (x == a) ≡ false = false_from_ne_true (x == a) (λ e. true≢false (sym (same e))) in
    sym (sum_by-cons (λ y. cond (y == a) 1 0) x zs ∙ rw differs (omega arith))
count_step a x false false ys zs same rest = rest

no_count : (t : Bool) → cond {A = ℕ} t 0 0 ≡ 0
no_count true = refl
no_count false = refl

-- how often a number stands among those that pass a test
pub count_by-filter : (a : ℕ) (p : ℕ → Bool) (xs : List ℕ) → count_by (λ x. x == a) (filter p xs) ≡ cond (p a) (count_by (λ x. x == a) xs) 0
count_by-filter a p [] = sym (no_count (p a))
count_by-filter a p (x ∷ xs) =
    count_step a x (p x) (p a) (filter p xs) xs (λ e. ap p (eqb-true x a e)) (count_by-filter a p xs)
