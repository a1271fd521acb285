-- The first place that passes, and the lists before and after it: at the first element, and behind one that
-- doesn't pass.
use Rattle.std.proofs.Common.{arith, not, ◌≡◌, ◌+◌, suc, Bool, true, false, cond, List, [], ◌∷◌, take, drop, ap, ◌∙◌}
use Rattle.std.specs.List.{position_or_len, before_first, after_first}

place-here : {A : Type 0} (p : A → Bool) (x : A) (xs : List A) → p x ≡ true → position_or_len p (x ∷ xs) ≡ 0
place-here p x xs here = ap (λ c. cond (not c) (1 + position_or_len p xs) 0) here

pub before-here : {A : Type 0} (p : A → Bool) (x : A) (xs : List A) → p x ≡ true → before_first p (x ∷ xs) ≡ []
before-here p x xs here = ap (λ n. take n (x ∷ xs)) (place-here p x xs here)

pub after-here : {A : Type 0} (p : A → Bool) (x : A) (xs : List A) → p x ≡ true → after_first p (x ∷ xs) ≡ xs
after-here p x xs here = ap (λ n. drop (n + 1) (x ∷ xs)) (place-here p x xs here)

place-more : {A : Type 0} (p : A → Bool) (x : A) (xs : List A) → p x ≡ false → position_or_len p (x ∷ xs) ≡ suc (position_or_len p xs)
place-more p x xs other = ap (λ c. cond (not c) (1 + position_or_len p xs) 0) other ∙ omega arith

pub before-more : {A : Type 0} (p : A → Bool) (x : A) (xs : List A) → p x ≡ false → before_first p (x ∷ xs) ≡ x ∷ before_first p xs
before-more p x xs other = ap (λ n. take n (x ∷ xs)) (place-more p x xs other)

pub after-more : {A : Type 0} (p : A → Bool) (x : A) (xs : List A) → p x ≡ false → after_first p (x ∷ xs) ≡ after_first p xs
after-more p x xs other =
    let size : position_or_len p (x ∷ xs) + 1 ≡ suc (position_or_len p xs + 1) = omega (arith, place-more p x xs other) in
    ap (λ n. drop n (x ∷ xs)) size
