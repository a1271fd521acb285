-- A bound that is raised, or isn't.
use Rattle.std.proofs.Common.{◌≡◌, Bool, true, false, int_lt, int_le, ℤ, refl, arith}
use Rattle.wrp_sums.proofs.Integers.{tests}

pub not_raised : (old new was value : ℤ) → was ≡ old → value ≡ new → int_le value was ≡ true → int_lt old new ≡ false
not_raised old new was value same told most = by (int_lt old new) refl
  where
    by : (t : Bool) → int_lt old new ≡ t → t ≡ false
    by true e = absurd (omega (arith, tests, e, most, same, told))
    by false e = refl

pub raised : (old new was value : ℤ) → was ≡ old → value ≡ new → int_le value was ≡ false → int_lt old new ≡ true
raised old new was value same told more = by (int_lt old new) refl
  where
    by : (t : Bool) → int_lt old new ≡ t → t ≡ true
    by true e = refl
    by false e = absurd (omega (arith, tests, e, more, same, told))
