-- Laws of the members of a list, and of tests that they pass.
use Rattle.std.proofs.Common.{◌≡◌, ℕ, suc, zero, ◌<◌, Bool, true, List, [], ◌∷◌, length, Contains, refl, sym, subst, inl, inr, arith}
use Rattle.std.specs.List.{list_all, list_any}
use Rattle.std.proofs.lemmas.Bool.{and_parts, and_from, or_cases, false≢true, cases_Bool}
use Rattle.std.proofs.lemmas.List.Folds.{list_any_at}

pub inside_head : {X : Type 0} (x : X) (xs : List X) → Contains (x ∷ xs) x
inside_head x xs = (0, omega arith, refl)

pub inside_tail : {X : Type 0} (x : X) (xs : List X) (y : X) → Contains xs y → Contains (x ∷ xs) y
inside_tail x xs y (k, below, is) = (suc k, omega arith, is)

-- a member is the first, or one of the others
pub inside_cases : {X : Type 0} (P : Type 0) (x : X) (xs : List X) (y : X) → Contains (x ∷ xs) y → (x ≡ y → P) → (Contains xs y → P) → P
inside_cases P x xs y (zero, below, is) first other = first is
inside_cases P x xs y (suc k, below, is) first other = other (k, omega arith, is)

pub inside_none : {X : Type 0} (y : X) → Contains [] y → ⊥
inside_none y (k, below, is) = omega arith

-- some member passes where one does
pub any_from_member : {X : Type 0} (p : X → Bool) (xs : List X) (x : X) → Contains xs x → p x ≡ true → list_any p xs ≡ true
any_from_member p xs x (k, below, is) passes = list_any_at p xs k x below (subst (λ y. p y ≡ true) (sym is) passes)

pub member_from_any : {X : Type 0} (p : X → Bool) (xs : List X) → list_any p xs ≡ true → (x : X) × (Contains xs x) × (p x ≡ true)
member_from_any p [] some = absurd (false≢true some)
member_from_any p (x ∷ xs) some =
    elim (or_cases (p x) (list_any p xs) some) [ inl here ↦ (x, inside_head x xs, here) | inr there ↦ (let m = member_from_any p xs there in (m.0, inside_tail x xs m.0 m.1, m.2)) ]

-- each member passes where all do
pub member_passes : {X : Type 0} (p : X → Bool) (xs : List X) (x : X) → list_all p xs ≡ true → Contains xs x → p x ≡ true
member_passes p [] x all inside = absurd (inside_none x inside)
member_passes p (y ∷ xs) x all inside =
    inside_cases (p x ≡ true) y xs x inside (λ same. subst (λ z. p z ≡ true) same (and_parts _ _ all).0) (λ other. member_passes p xs x (and_parts _ _ all).1 other)

pub all_from_members : {X : Type 0} (p : X → Bool) (xs : List X) → ((x : X) → Contains xs x → p x ≡ true) → list_all p xs ≡ true
all_from_members p [] each = refl
all_from_members p (x ∷ xs) each =
    and_from _ _ (each x (inside_head x xs)) (all_from_members p xs (λ y inside. each y (inside_tail x xs y inside)))
