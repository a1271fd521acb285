-- The digits of a text that were read so far.
use Rattle.std.proofs.Common.{◌≡◌, ◌<◌, ◌+◌, ◌-◌, ◌*◌, ◌^◌, ℕ, List, take, length, get_or, true, refl, add-one, arith}
use Rattle.std.proofs.Math.Nat.{pow-suc}
use Rattle.std.proofs.lemmas.Bool.Decides.{nat_tests}
use Rattle.std.proofs.lemmas.Int.Digits.{digits_value_more}
use Rattle.std.proofs.lemmas.List.Folds.{list_all_more}
use Rattle.std.proofs.lemmas.Str.{digit_value_digit}
use Rattle.std.specs.Char.{digit_value, is_ascii_digit}
use Rattle.std.specs.Int.{IsInRange}
use Rattle.std.specs.List.{list_all}
use Rattle.std.specs.Str.Parse.{digits_value}

-- the first bytes of a text are digits, and the value is the number that they write
pub record ReadSoFar (text : List ℕ) (index value : ℕ) : Type 0 where
  pub digits : list_all is_ascii_digit (take index text) ≡ true
  pub value_is : value ≡ digits_value 10 (take index text)
  pub small : value < 10 ^ index

digit_range : (byte : ℕ) → is_ascii_digit byte ≡ true → IsInRange 48 57 byte
digit_range byte digit = grind (arith, nat_tests)

times_ten : (value digit power : ℕ) → value < power → digit < 10 → value * 10 + digit < power * 10
times_ten value digit power below small = omega arith

-- one more digit
pub one_more : (text : List ℕ) (index value : ℕ) → ReadSoFar text index value → index < length text
    → is_ascii_digit (get_or text index 0) ≡ true → ReadSoFar text (index + 1) (value * 10 + (get_or text index 0 - 48))
one_more text index value sofar inside digit =
    let range = digit_range (get_or text index 0) digit in
    let worth : get_or text index 0 - 48 ≡ digit_value (get_or text index 0) = omega (arith, digit_value_digit (get_or text index 0) range) in
    let small : get_or text index 0 - 48 < 10 = omega arith in
    record {
      digits = rw (list_all_more is_ascii_digit text index 0 inside, sofar.digits) digit;
      value_is = rw (digits_value_more 10 text index inside, ← worth, ← sofar.value_is) refl;
      small = rw (add-one, pow-suc) (times_ten value _ (10 ^ index) sofar.small small);
    }
