-- Digits and their value, byte by byte.
use Rattle.std.proofs.Common.{◌≡◌, ℕ, ◌+◌, ◌*◌, ◌<◌, ◌≤◌, Bool, true, List, length, get_or, take, arith}
use Rattle.std.proofs.lemmas.Bool.{true_from_ne_false, both_ways}
use Rattle.std.proofs.lemmas.Bool.Decides.{nat_tests}
use Rattle.std.proofs.lemmas.List.Folds.{list_all_at}
use Rattle.std.proofs.lemmas.Int.Digits.{digits_value_more}
use Rattle.std.proofs.lemmas.Str.{digit_value_digit}
use Rattle.std.specs.Char.{is_ascii_digit}
use Rattle.std.specs.List.{list_all}
use Rattle.wrp_grammar.specs.Parts.{number_of}

-- each element of a list that passes a test does
pub list_all-at : {X : Type 0} (p : X → Bool) (xs : List X) (i : ℕ) (d : X) → list_all p xs ≡ true → i < length xs → p (get_or xs i d) ≡ true
list_all-at p xs i d all lt = true_from_ne_false _ (λ no. both_ways (list_all p xs) (list_all_at p xs i d lt no) all)

-- a digit is a byte from 48 to 57
pub digit_range : (c : ℕ) → is_ascii_digit c ≡ true → (48 ≤ c) × (c ≤ 57)
digit_range c h = grind (arith, nat_tests)

-- one digit more makes ten times the number and the digit
pub number_of-more : (bs : List ℕ) (i : ℕ) → list_all is_ascii_digit bs ≡ true → i < length bs → (number_of (take (i + 1) bs) + 48 ≡ 10 * number_of (take i bs) + get_or bs i 0) × (48 ≤ get_or bs i 0) × (get_or bs i 0 ≤ 57)
number_of-more bs i all lt =
    let range = digit_range (get_or bs i 0) (list_all-at is_ascii_digit bs i 0 all lt) in
    let value = digit_value_digit (get_or bs i 0) (range.0, range.1) in
    (omega (arith, digits_value_more 10 bs i lt, value), range.0, range.1)
