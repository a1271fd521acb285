-- What holds of each item of a list, with those before it, holds with one item more at the end.
use Rattle.std.proofs.Common.{◌≡◌, suc, List, [], ◌∷◌, ◌++◌, length, ap, refl, subst, arith, get_or, drop}

nothing_before : {X : Type 0} (before : List X) (item : X) (later : List X) → [] ≡ before ++ item ∷ later → ⊥
nothing_before [] item later e = let n : 0 ≡ suc (length later) = ap (λ (xs : List _). length xs) e in omega arith
nothing_before (b ∷ before) item later e = let n : 0 ≡ suc (length (before ++ item ∷ later)) = ap (λ (xs : List _). length xs) e in omega arith

pub each_of_none : {X : Type 0} (P : List X → X → Type 0) (before : List X) (item : X) (later : List X) → [] ≡ before ++ item ∷ later → P before item
each_of_none P before item later e = absurd (nothing_before before item later e)

pub each_of_more : {X : Type 0} (P : List X → X → Type 0) (added : List X) (x : X)
    → ((before : List X) (item : X) (later : List X) → added ≡ before ++ item ∷ later → P before item) → P added x
    → (before : List X) (item : X) (later : List X) → added ++ x ∷ [] ≡ before ++ item ∷ later → P before item
each_of_more P [] x old new [] item later e = subst (λ i. P [] i) (ap (λ (xs : List _). get_or xs 0 x) e) new
each_of_more P [] x old new (b ∷ before) item later e = absurd (nothing_before before item later (ap (λ (xs : List _). drop 1 xs) e))
each_of_more P (a ∷ added) x old new [] item later e = subst (λ i. P [] i) (ap (λ (xs : List _). get_or xs 0 x) e) (old [] a added refl)
each_of_more P (a ∷ added) x old new (b ∷ before) item later e =
    subst (λ i. P (i ∷ before) item) (ap (λ (xs : List _). get_or xs 0 x) e)
    (each_of_more (λ ys y. P (a ∷ ys) y) added x (λ ys y zs same. old (a ∷ ys) y zs (ap (λ (xs : List _). a ∷ xs) same)) new before item later
    (ap (λ (xs : List _). drop 1 xs) e))
