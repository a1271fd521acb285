-- Numbers and commands that words are.
use Rattle.std.proofs.Common.{◌≡◌, ℕ, ◌^◌, ◌<◌, ◌≤◌, ◌⊎◌, Bool, true, false, ◌&&◌, List, [], ◌∷◌, length, None, Some, refl, sym, arith, rules}
use Rattle.std.specs.Prelude.{if◌then◌else◌, nat_le}
use Rattle.std.specs.Char.{is_ascii_digit}
use Rattle.std.specs.List.{list_all}
use Rattle.std.specs.Str.Parse.{digits_value}
use Rattle.std.proofs.lemmas.Bool.{and_parts, lt-ltb, false≢true}
use Rattle.std.proofs.lemmas.Option.{none-some}
use Rattle.std.proofs.lemmas.Str.Parse.{IsNumeralModel, numerals_by_value, digits_value_short}
use Rattle.wrp_rules.specs.Ranges.{is_count}
use Rattle.wrp_grammar.specs.Parts.{is_number, number_of}
use Rattle.wrp_postman.specs.Words.{most_digits, number_in, command_of}

digits_model : IsNumeralModel (λ ds. list_all is_ascii_digit ds ≡ true) (digits_value 10)
digits_model = numerals_by_value (λ ds. list_all is_ascii_digit ds ≡ true) (search rules)

-- a number of few digits is a count
few_digits : (word : List ℕ) → is_number word ≡ true → length word ≤ most_digits → is_count (number_of word) ≡ true
few_digits word is short =
    let digits : list_all is_ascii_digit word ≡ true = (and_parts _ _ (and_parts _ _ is).0).1 in
    lt-ltb (number_of word) (2 ^ 63) (omega (arith, digits_value_short digits_model word most_digits digits short))

-- a word of few digits that is no count is no number in any range
no_count : (number count few above below : Bool) (n : ℕ) → (number ≡ true → count ≡ true) → (if number && count then Some n else None) ≡ None → (if few && number && above && below then Some n else None) ≡ None
no_count true true few above below n counts none = absurd (none-some n (sym none))
no_count true false few above below n counts none = absurd (false≢true (counts refl))
no_count false count true above below n counts none = refl
no_count false count false above below n counts none = refl

pub no_number : (least most : ℕ) (word : List ℕ) → length word ≤ most_digits → (if is_number word && is_count (number_of word) then Some (number_of word) else None) ≡ None → number_in least most word ≡ None
no_number least most word short none =
    no_count (is_number word) (is_count (number_of word)) (nat_le (length word) most_digits) (nat_le least (number_of word)) (nat_le (number_of word) most) (number_of word) (λ is. few_digits word is short) none

-- fewer words than two or more than five are no command
pub no_command : (words : List (List ℕ)) → (length words < 2) ⊎ (5 < length words) → command_of words ≡ None
no_command [] far = refl
no_command (a ∷ []) far = refl
no_command (a ∷ b ∷ []) far = absurd (omega (arith, far))
no_command (a ∷ b ∷ c ∷ []) far = absurd (omega (arith, far))
no_command (a ∷ b ∷ c ∷ d ∷ []) far = absurd (omega (arith, far))
no_command (a ∷ b ∷ c ∷ d ∷ e ∷ []) far = absurd (omega (arith, far))
no_command (a ∷ b ∷ c ∷ d ∷ e ∷ f ∷ others) far = refl
