-- The texts of steps, numbers and pairs, and of lists of them.
use Rattle.std.proofs.Common.{arith, ◌≡◌, ℕ, ◌-◌, ◌<◌, ◌^◌, Bool, true, false, cond, ◌&&◌, not, ◌==◌, nat_lt, nat_le, List, [], ◌∷◌, map, length, refl, sym, ap, ◌∙◌}
use Rattle.std.proofs.lemmas.Bool.{and_parts, and_from, ltb-true, leb-true, lt-ltb}
use Rattle.std.proofs.lemmas.List.Folds.{list_all-append}
use Rattle.std.proofs.lemmas.List.Splits.{join_with_byte-slice_split}
use Rattle.std.specs.Fmt.{decimal}
use Rattle.std.specs.List.{list_all, join_with_byte}
use Rattle.wrp_town.specs.declared.street.Step.{Step}
use Rattle.wrp_rules.specs.declared.layout.Range.{Range}
use Rattle.wrp_rules.specs.declared.layout.Range.TheVariants.{Count, Index, FromOne}
use Rattle.wrp_rules.specs.Ranges.{is_index, is_count, is_from_one, is_in_range, is_ascending, is_set, are_pairs, are_multipliers}
use Rattle.wrp_rules.specs.Lines.{step_text, pair_text}
use Rattle.wrp_grammar.specs.Parts.{parts_of, number_of, numbers_of, is_number, is_index_part, are_set_parts, is_sign, sign_of, street_part, is_step, step_of, is_pair, pair_of, are_multiplier_parts, are_pair_parts}
use Rattle.wrp_grammar.specs.Numbers.{is_range_part}
use Rattle.wrp_grammar.proofs.Written.{number-text, text-number, step-text, text-step, step_text-sign}
use Rattle.wrp_grammar.proofs.WrittenPairs.{number_digits, pair-text, text-pair, pair_text-colon}
use Rattle.wrp_grammar.proofs.Spacing.{is_solid, digits-solid}
use Rattle.wrp_grammar.proofs.PairLists.{firsts, ascending-index, first-index, second-range}
use Rattle.wrp_grammar.proofs.Texts.{AreTexts, AreParts, each, ordered}

-- what is left of a line, joined again
pub joined : (A : Type 0) (texts : A → List (List ℕ)) (value : List (List ℕ) → A) (right : List (List ℕ) → Bool) (ranged : A → Bool) (h : AreParts A texts value right ranged) (left bytes : List ℕ) (space : ℕ) → right (parts_of left) ≡ true → left ≡ space ∷ bytes
    → bytes ≡ join_with_byte 32 (texts (value (parts_of left)))
joined A texts value right ranged h left bytes space all e =
    sym (ap (join_with_byte 32) (h.written (parts_of left) all) ∙ ap (λ xs. join_with_byte 32 (parts_of xs)) e ∙ join_with_byte-slice_split 32 bytes)

-- ---- numbers in a range below 10 ^ 64

below : (p : ℕ → Bool) → ((n : ℕ) → p n ≡ true → n < 10 ^ 64) → AreTexts ℕ decimal number_of (λ part. is_number part && p (number_of part)) p
below p small = record {
  written = λ part h. let both = and_parts (is_number part) (p (number_of part)) h in number-text part both.0 (small (number_of part) both.1);
  ranged = λ part h. (and_parts (is_number part) (p (number_of part)) h).1;
  solid = λ n h. digits-solid (decimal n) (number_digits (decimal n) (text-number n (small n h)).0).1;
  right = λ n h. let number = text-number n (small n h) in and_from (is_number (decimal n)) (p (number_of (decimal n))) number.0 (ap p number.1 ∙ h);
  same = λ n h. (text-number n (small n h)).1;
}

pub index-texts : AreTexts ℕ decimal number_of is_index_part is_index
index-texts = below is_index (λ n h. let small : n < 2 ^ 32 = ltb-true n (2 ^ 32) h in omega arith)

-- a range whose numbers are read
abbrev pub is_short : Range → Bool
is_short (FromOne most) = nat_lt most (2 ^ 99)
is_short range = true

pub range-texts : (range : Range) → is_short range ≡ true → AreTexts ℕ decimal number_of (is_range_part range) (is_in_range range)
range-texts Count short = below is_count (λ n h. let small : n < 2 ^ 63 = ltb-true n (2 ^ 63) h in omega arith)
range-texts Index short = index-texts
range-texts (FromOne most) short = below (is_from_one most) (λ n h.
    let small : most < 2 ^ 99 = ltb-true most (2 ^ 99) short in
    omega (arith, leb-true n most (and_parts (nat_le 1 n) (nat_le n most) h).1))

-- ---- steps

step-solid : (step : Step) → is_index step.street ≡ true → is_solid (step_text step) ≡ true
step-solid step h =
    ap is_solid (step_text-sign step)
    ∙ list_all-append (λ byte. not (byte == 32)) (decimal step.street) (cond step.back 45 43 ∷ [])
    ∙ and_from (is_solid (decimal step.street)) (is_solid (cond step.back 45 43 ∷ [])) (index-texts.solid step.street h) (sign step.back)
  where
    sign : (back : Bool) → is_solid (cond back 45 43 ∷ []) ≡ true
    sign true = refl
    sign false = refl

pub step-texts : AreTexts Step step_text step_of is_step (λ step. is_index step.street)
step-texts = record {
  written = step-text;
  ranged = λ part h. (and_parts (is_number (street_part part)) (is_index (number_of (street_part part)))
      (and_parts (is_sign (sign_of part)) (is_number (street_part part) && is_index (number_of (street_part part))) h).1).1;
  solid = step-solid;
  right = λ step h. (text-step step h).0;
  same = λ step h. (text-step step h).1;
}

-- ---- pairs

abbrev pub is_ranged_pair : ℕ → (ℕ × ℕ) → Bool
is_ranged_pair most pair = is_index pair.0 && is_from_one most pair.1

ranged-parts : (most : ℕ) (pair : ℕ × ℕ) → is_ranged_pair most pair ≡ true → (is_index pair.0 ≡ true) × (is_from_one most pair.1 ≡ true)
ranged-parts most pair h = and_parts (is_index pair.0) (is_from_one most pair.1) h

pair-solid : (most : ℕ) → most < 2 ^ 99 → (pair : ℕ × ℕ) → is_ranged_pair most pair ≡ true → is_solid (pair_text pair) ≡ true
pair-solid most small pair h =
    let both = ranged-parts most pair h in
    let second = range-texts (FromOne most) (lt-ltb most (2 ^ 99) small) in
    ap is_solid (pair_text-colon pair)
    ∙ list_all-append (λ byte. not (byte == 32)) (decimal pair.0) (58 ∷ decimal pair.1)
    ∙ and_from (is_solid (decimal pair.0)) (is_solid (58 ∷ decimal pair.1)) (index-texts.solid pair.0 both.0) (second.solid pair.1 both.1)

pub pair-texts : (most : ℕ) → most < 2 ^ 99 → AreTexts (ℕ × ℕ) pair_text pair_of (is_pair most) (is_ranged_pair most)
pair-texts most small = record {
  written = λ part h. pair-text most part small h;
  ranged = λ part h. and_from (is_index (pair_of part).0) (is_from_one most (pair_of part).1) (first-index most part h) (second-range most part h);
  solid = pair-solid most small;
  right = λ pair h. let both = ranged-parts most pair h in (text-pair most pair small both.0 both.1).0;
  same = λ pair h. let both = ranged-parts most pair h in (text-pair most pair small both.0 both.1).1;
}

-- ---- lists

pub steps-parts : AreParts (List Step) (map step_text) (map step_of) (list_all is_step) (list_all (λ step. is_index step.street))
steps-parts = each Step step_text step_of is_step (λ step. is_index step.street) step-texts

pub indexes-parts : AreParts (List ℕ) (map decimal) numbers_of (list_all is_index_part) (list_all is_index)
indexes-parts = each ℕ decimal number_of is_index_part is_index index-texts

pub set-parts : AreParts (List ℕ) (map decimal) numbers_of are_set_parts is_set
set-parts = ordered (List ℕ) (map decimal) numbers_of (list_all is_index_part) (list_all is_index) indexes-parts is_set ascending-index

pub all-pairs : (most : ℕ) → most < 2 ^ 99 → AreParts (List (ℕ × ℕ)) (map pair_text) (map pair_of) (list_all (is_pair most)) (list_all (is_ranged_pair most))
all-pairs most small = each (ℕ × ℕ) pair_text pair_of (is_pair most) (is_ranged_pair most) (pair-texts most small)

in-range : (most : ℕ) (pairs : List (ℕ × ℕ)) → list_all is_index (firsts pairs) ≡ true → list_all (λ q. is_from_one most q.1) pairs ≡ true → list_all (is_ranged_pair most) pairs ≡ true
in-range most [] h k = refl
in-range most (pair ∷ pairs) h k =
    let one = and_parts (is_index pair.0) (list_all is_index (firsts pairs)) h in
    let two = and_parts (is_from_one most pair.1) (list_all (λ q. is_from_one most q.1) pairs) k in
    and_from (is_ranged_pair most pair) (list_all (is_ranged_pair most) pairs) (and_from (is_index pair.0) (is_from_one most pair.1) one.0 two.0) (in-range most pairs one.1 two.1)

pairs-ranged : (most : ℕ) (pairs : List (ℕ × ℕ)) → are_pairs most pairs ≡ true → list_all (is_ranged_pair most) pairs ≡ true
pairs-ranged most pairs h =
    let both = and_parts (is_ascending (2 ^ 32 - 1) (firsts pairs)) (list_all (λ q. is_from_one most q.1) pairs) h in
    in-range most pairs (ascending-index (firsts pairs) both.0) both.1

pub pairs-parts : (most : ℕ) → most < 2 ^ 99 → AreParts (List (ℕ × ℕ)) (map pair_text) (map pair_of) (are_pair_parts most) (are_pairs most)
pairs-parts most small = ordered (List (ℕ × ℕ)) (map pair_text) (map pair_of) (list_all (is_pair most)) (list_all (is_ranged_pair most)) (all-pairs most small) (are_pairs most) (pairs-ranged most)

pub multipliers-parts : (most : ℕ) → most < 2 ^ 99 → AreParts (List (ℕ × ℕ)) (map pair_text) (map pair_of) (are_multiplier_parts most) (are_multipliers most)
multipliers-parts most small = ordered (List (ℕ × ℕ)) (map pair_text) (map pair_of) (list_all (is_pair most)) (list_all (is_ranged_pair most)) (all-pairs most small) (are_multipliers most)
    (λ pairs h. pairs-ranged most pairs (and_parts (are_pairs most pairs) (nat_le (length pairs) 4096) h).0)
