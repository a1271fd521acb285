-- Digits without a leading zero are written as `decimal` writes their value, below 10 ^ 64.
use Rattle.std.proofs.Common.{◌≡◌, ℕ, ◌+◌, ◌*◌, ◌/◌, ◌%◌, ◌^◌, ◌<◌, ◌≤◌, true, List, [], ◌∷◌, ◌++◌, length, get_or, sym, ap, ◌∙◌, arith, append_assoc}
use Rattle.std.proofs.lemmas.Bool.{and_parts}
use Rattle.std.proofs.lemmas.Fmt.{decimal_step_wide, decimal_digit}
use Rattle.std.proofs.lemmas.List.{append-nil}
use Rattle.std.proofs.lemmas.Str.{digit_value_digit}
use Rattle.std.specs.Char.{digit_value, is_ascii_digit}
use Rattle.std.specs.Fmt.{decimal}
use Rattle.std.specs.List.{list_all}
use Rattle.std.specs.Str.Parse.{digits_value, digits_value_after}
use Rattle.wrp_grammar.proofs.NumberTexts.{digit_range}

-- more digits make no smaller number
after-least : (n : ℕ) (digits : List ℕ) → n ≤ digits_value_after 10 n digits
after-least n [] = omega arith
after-least n (c ∷ digits) = omega (arith, after-least (n * 10 + digit_value c) digits)

-- digits behind a number are written behind it
written-after : (n : ℕ) (digits : List ℕ) → 0 < n → list_all is_ascii_digit digits ≡ true → digits_value_after 10 n digits < 10 ^ 64 → decimal (digits_value_after 10 n digits) ≡ decimal n ++ digits
written-after n [] some all small = sym (append-nil (decimal n))
written-after n (c ∷ digits) some all small =
    let both = and_parts (is_ascii_digit c) (list_all is_ascii_digit digits) all in
    let range = digit_range c both.0 in
    let value = digit_value_digit c (range.0, range.1) in
    let more : ℕ = n * 10 + digit_value c in
    let front : more / 10 ≡ n = omega (arith, range, value) in
    let end : 48 + more % 10 ≡ c = omega (arith, range, value) in
    written-after more digits (omega arith) both.1 small
    ∙ ap (λ text. text ++ digits) (decimal_step_wide more (omega arith) (omega (arith, after-least more digits)) ∙ (λ i. decimal (front i) ++ (end i ∷ [])))
    ∙ append_assoc (decimal n) (c ∷ []) digits

-- digits are written as their value is
pub written : (digits : List ℕ) → list_all is_ascii_digit digits ≡ true → 0 < length digits → (get_or digits 0 0 ≡ 48 → length digits ≡ 1) → digits_value 10 digits < 10 ^ 64 → decimal (digits_value 10 digits) ≡ digits
written [] all some lead small = absurd (omega arith)
written (c ∷ []) all some lead small =
    let range = digit_range c (and_parts (is_ascii_digit c) true all).0 in
    let value = digit_value_digit c (range.0, range.1) in
    decimal_digit (0 * 10 + digit_value c) (omega (arith, range, value)) ∙ ap (λ x. x ∷ []) (omega (arith, range, value))
written (c ∷ e ∷ digits) all some lead small =
    let both = and_parts (is_ascii_digit c) (list_all is_ascii_digit (e ∷ digits)) all in
    let range = digit_range c both.0 in
    let value = digit_value_digit c (range.0, range.1) in
    let is : 48 + (0 * 10 + digit_value c) ≡ c = omega (arith, range, value) in
    let no : c ≡ 48 → ⊥ = λ zero. omega (arith, lead zero) in
    written-after (0 * 10 + digit_value c) (e ∷ digits) (omega (arith, range, value, no)) both.1 small
    ∙ ap (λ text. text ++ (e ∷ digits)) (decimal_digit (0 * 10 + digit_value c) (omega (arith, range, value)) ∙ ap (λ x. x ∷ []) is)
