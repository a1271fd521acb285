-- Laws of quotients rounded up.
use Rattle.std.proofs.Common.{◌≡◌, ℕ, suc, ◌/◌, ◌<◌, ℤ, pos, negsuc, ◌+ℤ◌, ◌*ℤ◌, ◌≤ℤ◌, ◌<ℤ◌, arith}
use Rattle.std.proofs.lemmas.Int.{ints, by_lt_z}
use Rattle.wrp_sums.specs.Rounding.{ceil_div, IsCeilDiv}
use Rattle.wrp_sums.proofs.Integers.{linear, *ℤ-neg_ℤ, *ℤ-+ℤ, *ℤ_left_comm, scale_le, cancel_le, at_most_antisym, at_most_trans}

-- q times b is the first multiple of b that reaches a: b q - b < a ≤ b q
pub record Brackets (a : ℤ) (b : ℕ) (q : ℤ) : Type 0 where
  pub reaches : a ≤ℤ (pos b *ℤ q)
  pub within : (pos b *ℤ q) <ℤ (a +ℤ pos b)

pub brackets_ceil_div : (a : ℤ) (b : ℕ) → 0 < b → Brackets a b (ceil_div a b)
brackets_ceil_div (pos a) b p = record { reaches = omega (arith, ints); within = omega (arith, ints) }
brackets_ceil_div (negsuc a) b p =
    let e = *ℤ-neg_ℤ (pos b) (pos (suc a / b)) in
    record { reaches = omega (arith, linear); within = omega (arith, linear) }

pub IsCeilDiv-from_brackets : (a : ℤ) (b : ℕ) (q : ℤ) → Brackets a b q → IsCeilDiv a b q
IsCeilDiv-from_brackets a b q h =
    record {
      covers = h.reaches;
      least = λ r reached.
          by_lt_z r q
          (λ below.
          let step : (r +ℤ pos 1) ≤ℤ q = omega (arith, linear) in
          let scaled = scale_le b (r +ℤ pos 1) q step in
          absurd (omega (arith, ints, *ℤ-+ℤ (pos b) r (pos 1))))
          (λ enough. enough);
    }

-- `ceil_div` rounds up
pub IsCeilDiv-ceil_div : (a : ℤ) (b : ℕ) → 0 < b → IsCeilDiv a b (ceil_div a b)
IsCeilDiv-ceil_div a b p = IsCeilDiv-from_brackets a b (ceil_div a b) (brackets_ceil_div a b p)

-- a quotient rounded up is unique
pub IsCeilDiv_unique : (a : ℤ) (b : ℕ) (q r : ℤ) → IsCeilDiv a b q → IsCeilDiv a b r → q ≡ r
IsCeilDiv_unique a b q r h k = at_most_antisym q r (h.least r k.covers) (k.least q h.covers)

-- what rounds up is `ceil_div`
pub IsCeilDiv_is : (a : ℤ) (b : ℕ) (q : ℤ) → 0 < b → IsCeilDiv a b q → q ≡ ceil_div a b
IsCeilDiv_is a b q p h = IsCeilDiv_unique a b q (ceil_div a b) h (IsCeilDiv-ceil_div a b p)

-- a greater number has no smaller quotient
pub IsCeilDiv_monotone : (a c : ℤ) (b : ℕ) (q r : ℤ) → a ≤ℤ c → IsCeilDiv a b q → IsCeilDiv c b r → q ≤ℤ r
IsCeilDiv_monotone a c b q r h s t = s.least r (at_most_trans a c (pos b *ℤ r) h t.covers)

pub ceil_div-≤ℤ : (a c : ℤ) (b : ℕ) → 0 < b → a ≤ℤ c → ceil_div a b ≤ℤ ceil_div c b
ceil_div-≤ℤ a c b p h =
    IsCeilDiv_monotone a c b (ceil_div a b) (ceil_div c b) h (IsCeilDiv-ceil_div a b p) (IsCeilDiv-ceil_div c b p)

-- v / d is at most c / e, and so are the quotients
pub ceil_div_of_fractions : (v c : ℤ) (d e : ℕ) → 0 < d → 0 < e → (pos e *ℤ v) ≤ℤ (pos d *ℤ c) → ceil_div v d ≤ℤ ceil_div c e
ceil_div_of_fractions v c d e some_d some_e h =
    let q = ceil_div c e in
    (IsCeilDiv-ceil_div v d some_d).least q
    (cancel_le e v (pos d *ℤ q) some_e
    (omega (arith, linear, *ℤ_left_comm (pos e) (pos d) q, scale_le d c (pos e *ℤ q) (IsCeilDiv-ceil_div c e some_e).covers)))
