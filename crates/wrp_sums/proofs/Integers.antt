-- Laws of whole numbers, and the sets of lemmas by which `omega` reads them. A number z is read as `up z - down z`.
--     linear      sums, negation, order and equality, with each product as an unknown
--     sized       these, ranges of the machine's widths, and sizes
--     casts       these, and numbers that went to bits and are read again
--     tests       these, and the tests of an `if`
--     spread      for `simp`: multiplies out
use Rattle.std.proofs.Common.{◌≡◌, ℕ, ◌+◌, ◌*◌, ◌≤◌, ◌<◌, ℤ, pos, negsuc, ◌+ℤ◌, ◌*ℤ◌, neg_ℤ, ◌≤ℤ◌, unsigned_abs, ap, sym, ◌∙◌, arith, mul-le-mul_left, mul-le-mul}
use Rattle.std.proofs.Math.Nat.{le_of_mul-le-mul_left}
use Rattle.std.proofs.lemmas.Int.{ints, unsigned_abs-mul}
use Rattle.std.proofs.Math.IntN.{*ℤ_comm}
pub use borrow.Author.Differences.{up, down, same_out, lt_out, le_out, same_in, below_in, at_most_in, sum_is_lem, neg_is, product_is, fits_out, fits_in, abs_is, back_is, small_is, lt-true, lt-false, le-true, le-false}

pub ruleset linear = (same_out, lt_out, le_out, same_in, below_in, at_most_in, sum_is_lem, neg_is)

pub ruleset sized = (linear, fits_out, fits_in, abs_is)

pub ruleset casts = (sized, back_is, small_is)

pub ruleset tests = (casts, lt-true, lt-false, le-true, le-false)

-- ---- products

pub *ℤ-+ℤ : (a b c : ℤ) → a *ℤ (b +ℤ c) ≡ a *ℤ b +ℤ a *ℤ c
*ℤ-+ℤ a b c = omega (arith, ints, ap (λ (n : ℕ). up a * n) (sum_is_lem b c), ap (λ (n : ℕ). down a * n) (sum_is_lem b c))

pub +ℤ-*ℤ : (a b c : ℤ) → (a +ℤ b) *ℤ c ≡ a *ℤ c +ℤ b *ℤ c
+ℤ-*ℤ a b c = omega (arith, linear, *ℤ_comm (a +ℤ b) c, *ℤ_comm a c, *ℤ_comm b c, *ℤ-+ℤ c a b)

pub *ℤ-neg_ℤ : (a b : ℤ) → a *ℤ neg_ℤ b ≡ neg_ℤ (a *ℤ b)
*ℤ-neg_ℤ a b =
    omega (
      arith,
      ints,
      ap (λ (n : ℕ). up a * n) (neg_is b).0,
      ap (λ (n : ℕ). up a * n) (neg_is b).1,
      ap (λ (n : ℕ). down a * n) (neg_is b).0,
      ap (λ (n : ℕ). down a * n) (neg_is b).1,
    )

pub neg_ℤ-*ℤ : (a b : ℤ) → neg_ℤ a *ℤ b ≡ neg_ℤ (a *ℤ b)
neg_ℤ-*ℤ a b = omega (arith, linear, *ℤ_comm (neg_ℤ a) b, *ℤ_comm a b, *ℤ-neg_ℤ b a)

pub *ℤ_assoc : (a b c : ℤ) → (a *ℤ b) *ℤ c ≡ a *ℤ (b *ℤ c)
*ℤ_assoc a b c =
    omega (
      arith,
      ints,
      ap (λ (n : ℕ). n * up c) (product_is a b).0,
      ap (λ (n : ℕ). n * down c) (product_is a b).0,
      ap (λ (n : ℕ). n * up c) (product_is a b).1,
      ap (λ (n : ℕ). n * down c) (product_is a b).1,
      ap (λ (n : ℕ). up a * n) (product_is b c).0,
      ap (λ (n : ℕ). down a * n) (product_is b c).0,
      ap (λ (n : ℕ). up a * n) (product_is b c).1,
      ap (λ (n : ℕ). down a * n) (product_is b c).1,
    )

-- the second factor first
pub *ℤ_left_comm : (a b c : ℤ) → a *ℤ (b *ℤ c) ≡ b *ℤ (a *ℤ c)
*ℤ_left_comm a b c =
    sym (*ℤ_assoc a b c) ∙ ap (λ (z : ℤ). z *ℤ c) (*ℤ_comm a b) ∙ *ℤ_assoc b a c

pub one-*ℤ : (a : ℤ) → pos 1 *ℤ a ≡ a
one-*ℤ a = omega (arith, ints)

pub zero_times : (a : ℤ) → pos 0 *ℤ a ≡ pos 0
zero_times a = omega (arith, ints)

pub times_zero : (a : ℤ) → a *ℤ pos 0 ≡ pos 0
times_zero a = omega (arith, ints)

pub ruleset spread = (*ℤ-+ℤ, +ℤ-*ℤ, *ℤ-neg_ℤ, neg_ℤ-*ℤ)

-- ---- order

pub at_most_refl : (a : ℤ) → a ≤ℤ a
at_most_refl a = omega (arith, linear)

pub at_most_trans : (a b c : ℤ) → a ≤ℤ b → b ≤ℤ c → a ≤ℤ c
at_most_trans a b c h k = omega (arith, linear)

pub at_most_antisym : (a b : ℤ) → a ≤ℤ b → b ≤ℤ a → a ≡ b
at_most_antisym a b h k = omega (arith, linear)

-- natural numbers as whole numbers keep their order
pub pos-≤ℤ : (m n : ℕ) → m ≤ n → pos m ≤ℤ pos n
pos-≤ℤ m n h = omega (arith, linear)

pub ≤-from_pos : (m n : ℕ) → pos m ≤ℤ pos n → m ≤ n
≤-from_pos m n h = omega (arith, linear)

-- an order, scaled
pub scale_le : (n : ℕ) (b c : ℤ) → b ≤ℤ c → (pos n *ℤ b) ≤ℤ (pos n *ℤ c)
scale_le n b c h = omega (arith, ints, mul-le-mul_left n (le_out b c h))

-- an order, scaled by a number that is not negative
pub scale_le_by : (a b c : ℤ) → pos 0 ≤ℤ a → b ≤ℤ c → (a *ℤ b) ≤ℤ (a *ℤ c)
scale_le_by (pos n) b c s h = scale_le n b c h
scale_le_by (negsuc n) b c s h = absurd (omega (arith, ints))

-- an order, scaled by a number that is not positive: it turns
pub scale_ge_by : (a b c : ℤ) → a ≤ℤ pos 0 → b ≤ℤ c → (a *ℤ c) ≤ℤ (a *ℤ b)
scale_ge_by a b c s h =
    let turned : (neg_ℤ a *ℤ b) ≤ℤ (neg_ℤ a *ℤ c) = scale_le_by (neg_ℤ a) b c (omega (arith, linear)) h in
    omega (arith, linear, neg_ℤ-*ℤ a b, neg_ℤ-*ℤ a c)

-- a positive factor, cancelled
pub cancel_le : (n : ℕ) (a b : ℤ) → 0 < n → (pos n *ℤ a) ≤ℤ (pos n *ℤ b) → a ≤ℤ b
cancel_le n a b p h = at_most_in a b (le_of_mul-le-mul_left {k = n} (omega (arith, ints)) p)

-- ---- sizes

pub size_of_sum : (a b : ℤ) (m n : ℕ) → unsigned_abs a ≤ m → unsigned_abs b ≤ n → unsigned_abs (a +ℤ b) ≤ m + n
size_of_sum a b m n h k = omega (arith, sized)

pub size_of_product : (a b : ℤ) (m n : ℕ) → unsigned_abs a ≤ m → unsigned_abs b ≤ n → unsigned_abs (a *ℤ b) ≤ m * n
size_of_product a b m n h k = rw (unsigned_abs-mul a b) (mul-le-mul h k)
