-- A quotient rounded up to a whole number.
use Rattle.std.specs.Prelude.{ℕ, suc, ◌+◌, ◌-◌, ◌/◌, ℤ, pos, negsuc, neg_ℤ, ◌*ℤ◌, ◌≤ℤ◌}

-- a / b, rounded up
abbrev pub ceil_div : ℤ → ℕ → ℤ
ceil_div (pos a) b = pos ((a + (b - 1)) / b)
ceil_div (negsuc a) b = neg_ℤ (pos (suc a / b))

-- q is the least whole number whose b-fold is at least a
pub record IsCeilDiv (a : ℤ) (b : ℕ) (q : ℤ) : Type 0 where
  -- q times b reaches a
  pub covers : a ≤ℤ (pos b *ℤ q)
  -- and no number below q does
  pub least : (r : ℤ) → a ≤ℤ (pos b *ℤ r) → q ≤ℤ r
