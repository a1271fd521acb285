-- Differences of whole numbers, and of their sums.
use Rattle.std.proofs.Common.{◌≡◌, ℕ, ◌<◌, ℤ, pos, ◌-ℤ◌, ◌*ℤ◌, neg_ℤ, List, [], ◌∷◌, refl, arith}
use Rattle.wrp_sums.specs.Sums.{sum_over}
use Rattle.wrp_sums.proofs.Integers.{linear, *ℤ-+ℤ, *ℤ-neg_ℤ, at_most_antisym, cancel_le}

pub *ℤ_minus : (a b c : ℤ) → a *ℤ (b -ℤ c) ≡ a *ℤ b -ℤ a *ℤ c
*ℤ_minus a b c = omega (arith, linear, *ℤ-+ℤ a b (neg_ℤ c), *ℤ-neg_ℤ a c)

pub cancel_same : (n : ℕ) (a b : ℤ) → 0 < n → pos n *ℤ a ≡ pos n *ℤ b → a ≡ b
cancel_same n a b positive e =
    at_most_antisym a b (cancel_le n a b positive (omega (arith, linear, e)))
    (cancel_le n b a positive (omega (arith, linear, e)))

pub sum_over_minus : {X : Type 0} (f g : X → ℤ) (xs : List X)
    → sum_over (λ x. f x -ℤ g x) xs ≡ sum_over f xs -ℤ sum_over g xs
sum_over_minus f g [] = refl
sum_over_minus f g (x ∷ xs) = omega (arith, linear, sum_over_minus f g xs)
