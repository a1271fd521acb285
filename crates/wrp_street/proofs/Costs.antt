-- A cost that was written in digits is read back.
use Rattle.std.proofs.Common.{◌≡◌, ◌≤◌, ◌<◌, ◌^◌, ◌==◌, ◌∷◌, [], ℕ, List, Bool, true, false, Some, None, cond, length, lit<, refl, ◌∙◌, ap, arith}
use Rattle.std.proofs.lemmas.Bool.{and_from, and_parts, le-leb}
use Rattle.std.proofs.lemmas.Bool.Decides.{nat_tests}
use Rattle.std.proofs.lemmas.Fmt.{decimal_nonempty, digits_decimal, digits_value-decimal, length-decimal-le}
use Rattle.std.proofs.lemmas.Str.Parse.{digit_from_value, numerals_by_value, tells_digits}
use Rattle.std.specs.Char.{is_ascii_digit}
use Rattle.std.specs.Fmt.{decimal}
use Rattle.std.specs.List.{list_all}
use Rattle.std.specs.Str.Parse.{AllDigits, digits_value}
use Rattle.wrp_records.specs.Fields.{is_blank, trim_end, trim_start, trimmed}
use Rattle.wrp_town.specs.Limits.{cost_limit}
use Rattle.wrp_street.specs.Costs.{cost_of, digit_limit, is_cost_number, is_dash}

digit_not_blank : (byte : ℕ) → is_ascii_digit byte ≡ true → is_blank byte ≡ false
digit_not_blank byte digit = grind (arith, nat_tests)

digit_not_dash : (byte : ℕ) → is_ascii_digit byte ≡ true → (byte == 45) ≡ false
digit_not_dash byte digit = grind (arith, nat_tests)

digits_at_end : (text : List ℕ) → list_all is_ascii_digit text ≡ true → trim_end text ≡ text
unfolding trim_end
digits_at_end [] digits = refl
digits_at_end (byte ∷ bytes) digits =
    rw (
      digit_not_blank byte (and_parts (is_ascii_digit byte) (list_all is_ascii_digit bytes) digits).0,
      digits_at_end bytes (and_parts (is_ascii_digit byte) (list_all is_ascii_digit bytes) digits).1,
    ) refl

digits_at_start : (text : List ℕ) → list_all is_ascii_digit text ≡ true → trim_start text ≡ text
unfolding trim_start
digits_at_start [] digits = refl
digits_at_start (byte ∷ bytes) digits =
    rw (digit_not_blank byte (and_parts (is_ascii_digit byte) (list_all is_ascii_digit bytes) digits).0) refl

-- digits have no blanks to trim
pub trimmed-digits : (text : List ℕ) → list_all is_ascii_digit text ≡ true → trimmed text ≡ text
trimmed-digits text digits = ap trim_end (digits_at_start text digits) ∙ digits_at_end text digits

digits_no_dash : (text : List ℕ) → list_all is_ascii_digit text ≡ true → is_dash text ≡ false
digits_no_dash [] digits = refl
digits_no_dash (byte ∷ bytes) digits =
    rw (digit_not_dash byte (and_parts (is_ascii_digit byte) (list_all is_ascii_digit bytes) digits).0) refl

chosen : (a b c : Bool) (value : ℕ) → a ≡ false → b ≡ false → c ≡ true
    → cond a (Some None) (cond b (Some None) (cond c (Some (Some value)) None)) ≡ Some (Some value)
chosen a b c value empty dash number = rw (empty, dash, number) refl

-- one to ten digits of a value within the limit are a cost
cost_of-digits : (text : List ℕ) → 0 < length text → length text ≤ digit_limit → list_all is_ascii_digit text ≡ true
    → digits_value 10 text ≤ cost_limit → cost_of text ≡ Some (Some (digits_value 10 text))
unfolding cost_of
cost_of-digits text some few digits small =
    let empty : (length text == 0) ≡ false = grind (arith, nat_tests) in
    rw (trimmed-digits text digits)
    (chosen (length text == 0) (is_dash text) (is_cost_number text) (digits_value 10 text) empty (digits_no_dash text digits)
    (and_from _ _ (le-leb (length text) digit_limit few) (and_from _ _ digits (le-leb (digits_value 10 text) cost_limit small))))

-- a dash stands for an illegal direction
pub cost_of-dash : cost_of (45 ∷ []) ≡ Some None
unfolding cost_of trim_start trim_end
cost_of-dash = refl

list_all-from_AllDigits : (text : List ℕ) → AllDigits 10 text → list_all is_ascii_digit text ≡ true
list_all-from_AllDigits [] digits = refl
list_all-from_AllDigits (byte ∷ bytes) digits =
    let range = digit_from_value byte digits.0 in
    let here : is_ascii_digit byte ≡ true = in_range byte range.0 range.1 in
    rw (here, list_all-from_AllDigits bytes digits.1) refl
  where
    in_range : (byte : ℕ) → 48 ≤ byte → byte ≤ 57 → is_ascii_digit byte ≡ true
    in_range byte low high = grind (arith, nat_tests)

-- a cost that was written as a number is read back
pub cost_of-decimal : (cost : ℕ) → cost ≤ cost_limit → cost_of (decimal cost) ≡ Some (Some cost)
cost_of-decimal cost small =
    let own = numerals_by_value (AllDigits 10) tells_digits in
    let wide : cost < 2 ^ 64 = omega arith in
    let value = digits_value-decimal own cost wide in
    cost_of-digits (decimal cost) (decimal_nonempty cost wide) (length-decimal-le 10 cost (lit< tt) (omega arith) wide)
    (list_all-from_AllDigits (decimal cost) (digits_decimal own cost wide)) (rw value small)
    ∙ ap (λ (n : ℕ). Some (Some n)) value
