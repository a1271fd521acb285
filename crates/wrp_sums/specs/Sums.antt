-- Sums of whole numbers over a list, the list of the first numbers, and sparse rows.
use Rattle.std.specs.Prelude.{ℕ, zero, suc, cond, ◌==◌, ℤ, pos, ◌+ℤ◌, List, [], ◌∷◌, ◌++◌}

-- the sum of f over xs
abbrev pub sum_over : {X : Type 0} → (X → ℤ) → List X → ℤ
sum_over f [] = pos 0
sum_over f (x ∷ xs) = f x +ℤ sum_over f xs

-- 0, 1 and so on, up to n - 1
abbrev pub numbers_below : ℕ → List ℕ
numbers_below zero = []
numbers_below (suc n) = numbers_below n ++ n ∷ []

-- the coefficient at number a of a sparse row, whose terms are pairs of a number and a coefficient
abbrev pub coef_at : List (ℕ × ℤ) → ℕ → ℤ
coef_at terms a = sum_over (λ t. cond (t.0 == a) t.1 (pos 0)) terms
