-- Quotients that are rounded toward 0, and what is to be added to round them up.
use Rattle.std.proofs.Common.{◌≡◌, suc, ◌/◌, ◌<◌, ◌^◌, ℤ, pos, negsuc, ◌+ℤ◌, ◌≤ℤ◌, ◌<ℤ◌, unsigned_abs, int_div, int_rem, FitsSigned, arith, div-le_self}
use Rattle.std.specs.Int.{w128}
use Rattle.std.proofs.lemmas.Int.{ints}
use Rattle.wrp_sums.specs.Rounding.{IsCeilDiv, ceil_div}
use Rattle.wrp_sums.proofs.Integers.{linear, *ℤ-neg_ℤ}
use Rattle.wrp_sums.proofs.RoundedUp.{IsCeilDiv-from_brackets, IsCeilDiv_is}

-- a rest above 0: the quotient is one too small
pub rounds_up : (a b : ℤ) → pos 0 <ℤ b → pos 0 <ℤ int_rem a b → IsCeilDiv a (unsigned_abs b) (int_div a b +ℤ pos 1)
rounds_up (pos a) (pos b) positive rest =
    IsCeilDiv-from_brackets (pos a) b (pos (a / b) +ℤ pos 1) (record { reaches = omega (arith, ints); within = omega (arith, ints) })
rounds_up (negsuc a) (pos b) positive rest = absurd (omega (arith, ints))
rounds_up a (negsuc b) positive rest = absurd (omega (arith, ints))

-- a rest of 0 or below: the quotient is rounded up already
pub is_up : (a b : ℤ) → pos 0 <ℤ b → int_rem a b ≤ℤ pos 0 → IsCeilDiv a (unsigned_abs b) (int_div a b)
is_up (pos a) (pos b) positive rest =
    IsCeilDiv-from_brackets (pos a) b (pos (a / b)) (record { reaches = omega (arith, ints); within = omega (arith, ints) })
is_up (negsuc a) (pos b) positive rest =
    let e = *ℤ-neg_ℤ (pos b) (pos (suc a / b)) in
    let some : 0 < b = omega (arith, linear) in
    IsCeilDiv-from_brackets (negsuc a) b (int_div (negsuc a) (pos b)) (record { reaches = omega (arith, linear); within = omega (arith, linear) })
is_up a (negsuc b) positive rest = absurd (omega (arith, ints))

-- the quotient has room for one more
pub room : (a b : ℤ) → pos 0 <ℤ b → unsigned_abs a < 2 ^ 126 → FitsSigned w128 (int_div a b +ℤ pos 1)
room (pos a) (pos b) positive small = omega (arith, ints, div-le_self a b)
room (negsuc a) (pos b) positive small = omega (arith, ints, div-le_self (suc a) b)
room a (negsuc b) positive small = absurd (omega (arith, ints))

-- what rounds up is `ceil_div`
pub is_ceil_div : (a b q : ℤ) → pos 0 <ℤ b → IsCeilDiv a (unsigned_abs b) q → q ≡ ceil_div a (unsigned_abs b)
is_ceil_div a b q positive up = IsCeilDiv_is a (unsigned_abs b) q (omega (arith, ints)) up
