-- Pairs are written in one way.
use Rattle.std.proofs.Common.{codes, subst, inl, inr, ◌≡◌, ℕ, ◌+◌, ◌^◌, ◌<◌, ◌≤◌, true, false, ◌&&◌, nat_lt, nat_le, List, [], ◌∷◌, ◌++◌, length, get_or, take, drop, refl, sym, ap, ◌∙◌, arith, append_assoc}
use Rattle.std.proofs.lemmas.Bool.{and_parts, and_from, eqb-true, ltb-true, leb-true, cases_lt}
use Rattle.std.proofs.lemmas.Bool.Decides.{nat_tests}
use Rattle.std.proofs.lemmas.List.{take_at, drop_at, drop_all, get_or_at, get_or_append_left, length_push, length-append}
use Rattle.std.proofs.lemmas.List.Sums.{position_or_len_is, passes_at_first, split_at_first}
use Rattle.std.specs.Char.{is_ascii_digit}
use Rattle.std.specs.Fmt.{decimal}
use Rattle.std.specs.List.{list_all, position_or_len}
use Rattle.wrp_rules.specs.Lines.{pair_text}
use Rattle.wrp_grammar.specs.Parts.{is_digits, is_number, number_of, is_colon, first_half, second_half, is_pair, pair_of}
use Rattle.wrp_rules.specs.Ranges.{is_index, is_from_one}
use Rattle.wrp_grammar.proofs.NumberTexts.{list_all-at, digit_range}
use Rattle.wrp_grammar.proofs.Written.{number-text, text-number}

-- the digits of a number
pub number_digits : (part : List ℕ) → is_number part ≡ true → (0 < length part) × (list_all is_ascii_digit part ≡ true)
number_digits part h =
    let digits = (and_parts (is_digits part) _ h).0 in
    let both = and_parts (nat_lt 0 (length part)) (list_all is_ascii_digit part) digits in
    (ltb-true 0 (length part) both.0, both.1)

-- no colon stands among digits
colon_apart : (c : ℕ) → is_ascii_digit c ≡ true → is_colon c ≡ false
colon_apart c h = let range = digit_range c h in grind (arith, nat_tests)

-- the first colon stands behind digits
colon_place : (xs ys : List ℕ) → list_all is_ascii_digit xs ≡ true → position_or_len is_colon (xs ++ 58 ∷ ys) ≡ length xs
colon_place xs ys digits =
    position_or_len_is is_colon (xs ++ 58 ∷ ys) (length xs) 0 (omega (arith, length-append xs (58 ∷ ys)))
    (λ k lt. rw (get_or_append_left xs (58 ∷ ys) 0 k lt) (colon_apart (get_or xs k 0) (list_all-at is_ascii_digit xs k 0 digits lt)))
    (λ _. ap is_colon (get_or_at xs 58 ys 0 (length xs) refl))

pub halves-at : (xs ys : List ℕ) → list_all is_ascii_digit xs ≡ true → (first_half (xs ++ 58 ∷ ys) ≡ xs) × (second_half (xs ++ 58 ∷ ys) ≡ ys)
halves-at xs ys digits =
    let place = colon_place xs ys digits in (
      ap (λ n. take n (xs ++ 58 ∷ ys)) place ∙ take_at xs (58 ∷ ys) (length xs) refl,
      ap (λ n. drop (n + 1) (xs ++ 58 ∷ ys)) place ∙ ap (drop (length xs + 1)) (sym (append_assoc xs (58 ∷ []) ys)) ∙ drop_at (xs ++ 58 ∷ []) ys (length xs + 1) (length_push xs 58),
    )

-- where something stands behind a colon, the halves and the colon are the whole
pub halves-whole : (part : List ℕ) → 0 < length (second_half part) → first_half part ++ 58 ∷ second_half part ≡ part
halves-whole part some = elim (cases_lt (position_or_len is_colon part) (length part)) [
  | inl lt ↦ let colon = eqb-true (get_or part (position_or_len is_colon part) 0) 58 (passes_at_first is_colon part 0 lt) in
      ap (λ c. first_half part ++ c ∷ second_half part) (sym colon) ∙ sym (split_at_first is_colon part 0 lt)
  | inr ge ↦ absurd (omega (arith, ap length (drop_all (position_or_len is_colon part + 1) part (omega arith))))
]

-- the text of a pair: its numbers and the byte between them
pub pair_text-colon : (pair : ℕ × ℕ) → pair_text pair ≡ decimal pair.0 ++ 58 ∷ decimal pair.1
pair_text-colon pair = append_assoc (decimal pair.0) (codes ":") (decimal pair.1)

-- a pair that is written right is written as its numbers and a colon
pub pair-text : (most : ℕ) (part : List ℕ) → most < 2 ^ 99 → is_pair most part ≡ true → pair_text (pair_of part) ≡ part
pair-text most part small h =
    let first = first_half part in
    let second = second_half part in
    let both = and_parts (is_number first && is_index (number_of first)) (is_number second && is_from_one most (number_of second)) h in
    let one = and_parts (is_number first) (is_index (number_of first)) both.0 in
    let two = and_parts (is_number second) (is_from_one most (number_of second)) both.1 in
    let range = and_parts (nat_le 1 (number_of second)) (nat_le (number_of second) most) two.1 in
    let low : number_of first < 2 ^ 32 = ltb-true (number_of first) (2 ^ 32) one.1 in
    let high : number_of second ≤ most = leb-true (number_of second) most range.1 in
    pair_text-colon (pair_of part) ∙ rw (number-text first one.0 (omega arith), number-text second two.0 (omega arith)) (halves-whole part (number_digits second two.0).0)

-- the pair of the text of a pair
pub text-pair : (most : ℕ) (pair : ℕ × ℕ) → most < 2 ^ 99 → is_index pair.0 ≡ true → is_from_one most pair.1 ≡ true → (is_pair most (pair_text pair) ≡ true) × (pair_of (pair_text pair) ≡ pair)
text-pair most pair small index range =
    let low : pair.0 < 2 ^ 32 = ltb-true pair.0 (2 ^ 32) index in
    let high : pair.1 ≤ most = leb-true pair.1 most (and_parts (nat_le 1 pair.1) (nat_le pair.1 most) range).1 in
    let one = text-number pair.0 (omega arith) in
    let two = text-number pair.1 (omega arith) in
    let text : List ℕ = decimal pair.0 ++ 58 ∷ decimal pair.1 in
    let halves = halves-at (decimal pair.0) (decimal pair.1) (number_digits (decimal pair.0) one.0).1 in
    let first : number_of (first_half text) ≡ pair.0 = ap number_of halves.0 ∙ one.1 in
    let second : number_of (second_half text) ≡ pair.1 = ap number_of halves.1 ∙ two.1 in
    subst (λ bytes. (is_pair most bytes ≡ true) × (pair_of bytes ≡ pair)) (sym (pair_text-colon pair)) (
      and_from (is_number (first_half text) && is_index (number_of (first_half text))) (is_number (second_half text) && is_from_one most (number_of (second_half text)))
          (and_from (is_number (first_half text)) (is_index (number_of (first_half text))) (rw halves.0 one.0) (rw first index))
          (and_from (is_number (second_half text)) (is_from_one most (number_of (second_half text))) (rw halves.1 two.0) (rw second range)),
      ap (λ n. (n, number_of (second_half text))) first ∙ ap (λ n. (pair.0, n)) second,
    )
