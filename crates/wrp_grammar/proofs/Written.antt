-- Numbers, steps and pairs are written in one way: what a part spells is written as the part.
use Rattle.std.proofs.Common.{codes, subst, inl, inr, ◌≡◌, ℕ, ◌+◌, ◌-◌, ◌%◌, ◌^◌, ◌<◌, Bool, true, false, cond, ◌&&◌, ◌||◌, not, nat_lt, nat_le, ◌==◌, List, [], ◌∷◌, ◌++◌, length, get_or, refl, sym, ap, ◌∙◌, arith, rules, eq-eqb, length-append}
use Rattle.std.proofs.lemmas.Bool.{and_parts, and_from, or_cases, or_left, or_right, both_ways, ltb-true, lt-ltb, leb-true, le-leb, not-true, not_from_false, ne_eqb, cases_eq}
use Rattle.std.proofs.lemmas.Bool.Decides.{nat_tests}
use Rattle.std.proofs.lemmas.Fmt.{decimal_is_IsNumeral_wide, decimal_by_steps_wide, decimal_digit}
use Rattle.std.proofs.lemmas.Grind.{common_steps, take_at_read}
use Rattle.std.proofs.lemmas.List.{take_at, take_all, get_or_at, get_or_append_left, length_push}
use Rattle.std.proofs.lemmas.Str.Parse.{IsNumeralModel, numerals_by_value}
use Rattle.std.specs.Char.{is_ascii_digit}
use Rattle.std.specs.Fmt.{decimal}
use Rattle.std.specs.List.{list_all}
use Rattle.std.specs.Str.Parse.{digits_value}
use Rattle.wrp_town.specs.declared.street.Step.{Step}
use Rattle.wrp_rules.specs.Lines.{step_text}
use Rattle.wrp_grammar.specs.Parts.{is_digits, is_number, number_of, street_part, sign_of, is_sign, is_step, step_of}
use Rattle.wrp_rules.specs.Ranges.{is_index}
use Rattle.wrp_grammar.proofs.Digits.{written}

-- digits and their value are those of `decimal`
digits_model : IsNumeralModel (λ ds. list_all is_ascii_digit ds ≡ true) (digits_value 10)
digits_model = numerals_by_value (λ ds. list_all is_ascii_digit ds ≡ true) (search rules)

-- a number is written as `decimal` writes its value
pub number-text : (part : List ℕ) → is_number part ≡ true → number_of part < 10 ^ 64 → decimal (number_of part) ≡ part
number-text part h small =
    let parts = and_parts (is_digits part) (nat_le (length part) 1 || not (get_or part 0 0 == 48)) h in
    let digits = and_parts (nat_lt 0 (length part)) (list_all is_ascii_digit part) parts.0 in
    let some : 0 < length part = ltb-true 0 (length part) digits.0 in
    let one : get_or part 0 0 ≡ 48 → length part ≡ 1 = λ zero. elim (or_cases (nat_le (length part) 1) (not (get_or part 0 0 == 48)) parts.1) [
      | inl short ↦ omega (arith, leb-true (length part) 1 short)
      | inr other ↦ absurd (both_ways (get_or part 0 0 == 48) (not-true (get_or part 0 0 == 48) other) (eq-eqb (get_or part 0 0) 48 zero))
    ] in
    written part digits.1 some one small

-- the first digit of a number above 0 isn't 0
first-digit : (n : ℕ) → 0 < n → n < 10 ^ 64 → 48 < get_or (decimal n) 0 0
first-digit n some small = (decimal_by_steps_wide (λ m digits. (0 < length digits) × (0 < m → 48 < get_or digits 0 0)) (λ m l. (omega arith, λ a. omega arith))
    (λ m digits l h. (omega (arith, length-append digits ((48 + m % 10) ∷ [])), λ a. omega (arith, get_or_append_left digits ((48 + m % 10) ∷ []) 0 0 h.0, h.1 (omega arith)))) n small).1 some

-- what `decimal` writes is a number with that value
pub text-number : (n : ℕ) → n < 10 ^ 64 → (is_number (decimal n) ≡ true) × (number_of (decimal n) ≡ n)
text-number n small =
    let numeral = decimal_is_IsNumeral_wide n small in
    let some = lt-ltb 0 (length (decimal n)) numeral.0.0 in
    let digits = and_from (nat_lt 0 (length (decimal n))) (list_all is_ascii_digit (decimal n)) some (digits_model.from (decimal n) numeral.0.1) in
    let plain : (nat_le (length (decimal n)) 1 || not (get_or (decimal n) 0 0 == 48)) ≡ true = elim (cases_eq n 0) [
      | inl zero ↦ or_left (nat_le (length (decimal n)) 1) (not (get_or (decimal n) 0 0 == 48)) (le-leb (length (decimal n)) 1 (omega (arith, ap length (decimal_digit n (omega arith)))))
      | inr other ↦ or_right (nat_le (length (decimal n)) 1) (not (get_or (decimal n) 0 0 == 48)) (not_from_false (get_or (decimal n) 0 0 == 48) (ne_eqb (get_or (decimal n) 0 0) 48 (λ e. omega (arith, first-digit n (omega arith) small))))
    ] in
    (and_from (is_digits (decimal n)) (nat_le (length (decimal n)) 1 || not (get_or (decimal n) 0 0 == 48)) digits plain, numeral.1)

-- a text that ends with a byte: what stands before it, and the byte
pub ends_with : (xs : List ℕ) (y : ℕ) → (street_part (xs ++ y ∷ []) ≡ xs) × (sign_of (xs ++ y ∷ []) ≡ y)
ends_with xs y =
    let n : length (xs ++ y ∷ []) - 1 ≡ length xs = omega (arith, length_push xs y) in
    (rw n (take_at xs (y ∷ []) (length xs) refl), rw n (get_or_at xs y [] 0 (length xs) refl))

-- each text with bytes ends with one
pub ends : (xs : List ℕ) → 0 < length xs → street_part xs ++ sign_of xs ∷ [] ≡ xs
ends xs some =
    let more = (take_at_read xs (length xs - 1) 0 (omega arith)).1 in
    let all : length xs - 1 + 1 ≡ length xs = omega arith in
    sym more ∙ rw all (take_all (length xs) xs (omega arith))

-- a sign is one of two
sign_is : (sign : ℕ) → is_sign sign ≡ true → cond (sign == 45) 45 43 ≡ sign
sign_is sign h = grind (arith, nat_tests)

-- the text of a step: its street and one byte
pub step_text-sign : (step : Step) → step_text step ≡ decimal step.street ++ cond step.back 45 43 ∷ []
step_text-sign step = ap (λ sign. decimal step.street ++ sign) (sign step.back)
  where
    sign : (back : Bool) → cond back (codes "-") (codes "+") ≡ cond back 45 43 ∷ []
    sign true = refl
    sign false = refl

-- a step that is written right is written as its street and sign
pub step-text : (part : List ℕ) → is_step part ≡ true → step_text (step_of part) ≡ part
step-text part h =
    let parts = and_parts (is_sign (sign_of part)) (is_number (street_part part) && is_index (number_of (street_part part))) h in
    let street = and_parts (is_number (street_part part)) (is_index (number_of (street_part part))) parts.1 in
    let small : number_of (street_part part) < 2 ^ 32 = ltb-true (number_of (street_part part)) (2 ^ 32) street.1 in
    step_text-sign (step_of part) ∙ rw (number-text (street_part part) street.0 (omega arith), sign_is (sign_of part) parts.0) (ends part (some part parts.0))
  where
    some : (xs : List ℕ) → is_sign (sign_of xs) ≡ true → 0 < length xs
    some [] h = cc
    some (x ∷ xs) h = grind (arith, common_steps)

-- the step of the text of a step
pub text-step : (step : Step) → is_index step.street ≡ true → (is_step (step_text step) ≡ true) × (step_of (step_text step) ≡ step)
text-step step h =
    let sign : ℕ = cond step.back 45 43 in
    let text : List ℕ = decimal step.street ++ sign ∷ [] in
    let small : step.street < 2 ^ 32 = ltb-true step.street (2 ^ 32) h in
    let parts = ends_with (decimal step.street) sign in
    let number = text-number step.street (omega arith) in
    let value : number_of (street_part text) ≡ step.street = ap number_of parts.0 ∙ number.1 in
    subst (λ bytes. (is_step bytes ≡ true) × (step_of bytes ≡ step)) (sym (step_text-sign step)) (
      and_from (is_sign (sign_of text)) (is_number (street_part text) && is_index (number_of (street_part text)))
          (rw parts.1 (is_sign_of step.back))
          (and_from (is_number (street_part text)) (is_index (number_of (street_part text))) (rw parts.0 number.0) (rw value h)),
      same step (step_of text) value (ap (λ s. s == 45) parts.1 ∙ back_of step.back),
    )
  where
    is_sign_of : (back : Bool) → is_sign (cond back 45 43) ≡ true
    is_sign_of true = refl
    is_sign_of false = refl

    back_of : (back : Bool) → (cond back 45 43 == 45) ≡ back
    back_of true = refl
    back_of false = refl

    same : (a b : Step) → b.street ≡ a.street → b.back ≡ a.back → b ≡ a
    same a b s t =
        let step : ℕ → Bool → Step = λ street back. record { street = street; back = back } in
        ap (λ street. step street b.back) s ∙ ap (step a.street) t
