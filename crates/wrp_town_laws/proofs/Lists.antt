-- Laws of lists: what stands at a place of two lists or of a mapped one, and what a filter keeps.
use Rattle.std.proofs.Common.{◌≡◌, ℕ, zero, suc, ◌+◌, ◌<◌, ◌≤◌, Bool, true, false, cond, List, [], ◌∷◌, ◌++◌, map, length, Some, Contains, ap, refl, sym, ◌∙◌, subst, inl, inr, arith}
use Rattle.std.specs.Prelude.{slice_get, nat_lt}
use Rattle.std.specs.List.{filter, flat_map}
use Rattle.std.proofs.lemmas.Bool.{cases_Bool, ltb-true}
use Rattle.std.proofs.lemmas.List.Elements.{Contains-append_left, Contains-append_right, Contains-append_cases}
use Rattle.std.proofs.lemmas.Option.{none-some, same_Some}
use Rattle.wrp_town.proofs.Members.{inside_head, inside_tail, inside_cases, inside_none}

-- ---- places

pub slice_get_left : {X : Type 0} (xs ys : List X) (i : ℕ) → i < length xs → slice_get (xs ++ ys) i ≡ slice_get xs i
slice_get_left [] ys i below = absurd (omega arith)
slice_get_left (x ∷ xs) ys zero below = refl
slice_get_left (x ∷ xs) ys (suc i) below = slice_get_left xs ys i (omega arith)

pub slice_get_right : {X : Type 0} (xs ys : List X) (i k : ℕ) → i ≡ length xs + k → slice_get (xs ++ ys) i ≡ slice_get ys k
slice_get_right [] ys i k is = let same : i ≡ k = omega arith in ap (slice_get ys) same
slice_get_right (x ∷ xs) ys zero k is = absurd (omega arith)
slice_get_right (x ∷ xs) ys (suc i) k is = slice_get_right xs ys i k (omega arith)

pub slice_get_mapped : {X Y : Type 0} (f : X → Y) (xs : List X) (i : ℕ) (y : Y) → slice_get (map f xs) i ≡ Some y → (x : X) × (slice_get xs i ≡ Some x) × (f x ≡ y)
slice_get_mapped f [] i y is = absurd (none-some y is)
slice_get_mapped f (x ∷ xs) zero y is = (x, refl, same_Some (f x) y is)
slice_get_mapped f (x ∷ xs) (suc i) y is = slice_get_mapped f xs i y is

pub slice_get_map : {X Y : Type 0} (f : X → Y) (xs : List X) (i : ℕ) (x : X) → slice_get xs i ≡ Some x → slice_get (map f xs) i ≡ Some (f x)
slice_get_map f [] i x is = absurd (none-some x is)
slice_get_map f (y ∷ xs) zero x is = ap (λ z. Some (f z)) (same_Some y x is)
slice_get_map f (y ∷ xs) (suc i) x is = slice_get_map f xs i x is

pub inside_from_get : {X : Type 0} (xs : List X) (i : ℕ) (x : X) → slice_get xs i ≡ Some x → Contains xs x
inside_from_get [] i x is = absurd (none-some x is)
inside_from_get (y ∷ xs) zero x is = subst (λ z. Contains (y ∷ xs) z) (same_Some y x is) (inside_head y xs)
inside_from_get (y ∷ xs) (suc i) x is = inside_tail y xs x (inside_from_get xs i x is)

pub get_from_inside : {X : Type 0} (xs : List X) (x : X) → Contains xs x → (i : ℕ) × (slice_get xs i ≡ Some x)
get_from_inside [] x inside = absurd (inside_none x inside)
get_from_inside (y ∷ xs) x inside =
    inside_cases ((i : ℕ) × (slice_get (y ∷ xs) i ≡ Some x)) y xs x inside
    (λ same. (0, ap Some same))
    (λ other. let r = get_from_inside xs x other in (suc r.0, r.1))

-- ---- members that a filter keeps

inside_if : {X : Type 0} (b : Bool) (y : X) (xs : List X) (x : X) → Contains xs x → Contains (cond b (y ∷ xs) xs) x
inside_if true y xs x inside = inside_tail y xs x inside
inside_if false y xs x inside = inside

pub inside_filter : {X : Type 0} (p : X → Bool) (xs : List X) (x : X) → Contains xs x → p x ≡ true → Contains (filter p xs) x
inside_filter p [] x inside passes = absurd (inside_none x inside)
inside_filter p (y ∷ xs) x inside passes =
    inside_cases (Contains (filter p (y ∷ xs)) x) y xs x inside
    (λ same. subst (λ b. Contains (cond b (y ∷ filter p xs) (filter p xs)) x) (sym (ap p same ∙ passes)) (subst (λ z. Contains (y ∷ filter p xs) z) same (inside_head y (filter p xs))))
    (λ other. inside_if (p y) y (filter p xs) x (inside_filter p xs x other passes))

filtered_if : {X : Type 0} (P : Type 0) (b : Bool) (y : X) (xs : List X) (x : X) → Contains (cond b (y ∷ xs) xs) x → (b ≡ true → y ≡ x → P) → (Contains xs x → P) → P
filtered_if P true y xs x inside here there = inside_cases P y xs x inside (here refl) there
filtered_if P false y xs x inside here there = there inside

pub from_filter : {X : Type 0} (p : X → Bool) (xs : List X) (x : X) → Contains (filter p xs) x → (Contains xs x) × (p x ≡ true)
from_filter p [] x inside = absurd (inside_none x inside)
from_filter p (y ∷ xs) x inside =
    filtered_if ((Contains (y ∷ xs) x) × (p x ≡ true)) (p y) y (filter p xs) x inside
    (λ passes same. (subst (λ z. Contains (y ∷ xs) z) same (inside_head y xs), sym (ap p same) ∙ passes))
    (λ other. let r = from_filter p xs x other in (inside_tail y xs x r.0, r.1))

-- ---- tests and emptiness

pub le-not_lt : (m n : ℕ) → n ≤ m → nat_lt m n ≡ false
le-not_lt m n h = elim (cases_Bool (nat_lt m n)) [ inl less ↦ absurd (let b : m < n = ltb-true m n less in omega arith) | inr is ↦ is ]

pub not_empty : {X : Type 0} (xs : List X) (x : X) → Contains xs x → 0 < length xs
not_empty [] x inside = absurd (inside_none x inside)
not_empty (y ∷ xs) x inside = omega arith

-- ---- members of lists that are made of lists

pub inside_map : {X Y : Type 0} (f : X → Y) (xs : List X) (x : X) → Contains xs x → Contains (map f xs) (f x)
inside_map f xs x inside = let at = get_from_inside xs x inside in inside_from_get (map f xs) at.0 (f x) (slice_get_map f xs at.0 x at.1)

pub from_map : {X Y : Type 0} (f : X → Y) (xs : List X) (y : Y) → Contains (map f xs) y → (x : X) × (Contains xs x) × (f x ≡ y)
from_map f xs y inside = let at = get_from_inside (map f xs) y inside in let m = slice_get_mapped f xs at.0 y at.1 in (m.0, inside_from_get xs at.0 m.0 m.1, m.2)

pub inside_flat : {X Y : Type 0} (f : X → List Y) (xs : List X) (x : X) (y : Y) → Contains xs x → Contains (f x) y → Contains (flat_map f xs) y
inside_flat f [] x y inside has = absurd (inside_none x inside)
inside_flat f (z ∷ xs) x y inside has =
    inside_cases (Contains (flat_map f (z ∷ xs)) y) z xs x inside
    (λ same. Contains-append_left (f z) (flat_map f xs) y (subst (λ v. Contains (f v) y) (sym same) has))
    (λ other. Contains-append_right (f z) (flat_map f xs) y (inside_flat f xs x y other has))

pub from_flat : {X Y : Type 0} (f : X → List Y) (xs : List X) (y : Y) → Contains (flat_map f xs) y → (x : X) × (Contains xs x) × (Contains (f x) y)
from_flat f [] y inside = absurd (inside_none y inside)
from_flat f (z ∷ xs) y inside =
    elim (Contains-append_cases (f z) (flat_map f xs) y inside) [
      | inl here ↦ (z, inside_head z xs, here)
      | inr there ↦ (let r = from_flat f xs y there in (r.0, inside_tail z xs r.0 r.1, r.2))
    ]
