-- How often a number is a denominator.
use Rattle.std.proofs.Common.{◌≡◌, ℕ, ◌*◌, ◌/◌, ◌%◌, ◌<◌, ◌≤◌, ℤ, pos, negsuc, ◌≤ℤ◌, unsigned_abs, ap, ◌∙◌, arith}
use Rattle.std.proofs.lemmas.Nat.{div-add-mod'}
use Rattle.std.proofs.Math.Nat.{mul-mod_left, mul-div_cancel}
use Rattle.wrp_sums.proofs.Integers.{linear, sized}

pub size_positive : (den : ℤ) → pos 1 ≤ℤ den → 0 < unsigned_abs den
size_positive den positive = omega (arith, sized)

pub size_is : (number : ℤ) → pos 0 ≤ℤ number → number ≡ pos (unsigned_abs number)
size_is (pos n) least = ap pos (omega arith)
size_is (negsuc n) least = absurd (omega (arith, linear))

-- what the tests say of a number that is so often the denominator
pub tested_times : (number den : ℤ) (most k : ℕ) → pos 1 ≤ℤ den → k ≤ most → number ≡ pos (k * unsigned_abs den) → (pos 0 ≤ℤ number) × (unsigned_abs number % unsigned_abs den ≡ 0) × (unsigned_abs number / unsigned_abs den ≤ most)
tested_times number den most k positive few is =
    let size : unsigned_abs number ≡ k * unsigned_abs den = ap unsigned_abs is in (
      omega (arith, linear, is),
      ap (λ (n : ℕ). n % unsigned_abs den) size ∙ mul-mod_left k (unsigned_abs den),
      omega (arith, ap (λ (n : ℕ). n / unsigned_abs den) size ∙ mul-div_cancel k (size_positive den positive), few),
    )

-- and a number that passes them is so often the denominator
pub times_from_tests : (number den : ℤ) → pos 0 ≤ℤ number → unsigned_abs number % unsigned_abs den ≡ 0 → number ≡ pos (unsigned_abs number / unsigned_abs den * unsigned_abs den)
times_from_tests number den least none =
    size_is number least ∙ ap pos (omega (arith, div-add-mod' (unsigned_abs number) (unsigned_abs den), none))
