-- Lists of numbers and sets, and the parts that spell them.
use Rattle.std.proofs.Common.{◌≡◌, ℕ, ◌+◌, ◌-◌, ◌^◌, Bool, true, ◌&&◌, nat_lt, nat_le, List, [], ◌∷◌, refl}
use Rattle.std.proofs.lemmas.Bool.{and_parts, and_from, leb-true}
use Rattle.std.specs.List.{list_all}
use Rattle.wrp_grammar.specs.Parts.{is_number, number_of, numbers_of, is_index_part, are_set_parts}
use Rattle.wrp_rules.specs.Ranges.{is_index, is_set}
use Rattle.wrp_grammar.proofs.PairLists.{raised, lowered, above, all_from_zero, index-most, same_tests}

-- numbers that go up from one that is low or more
abbrev pub rise : ℕ → List (List ℕ) → Bool
rise low [] = true
rise low (part ∷ parts) = (is_index_part part && nat_le low (number_of part)) && rise (number_of part + 1) parts

-- the same, as the rules say it
record Rises (low : ℕ) (parts : List (List ℕ)) : Type 0 where
  each : list_all is_index_part parts ≡ true
  up : is_set (numbers_of parts) ≡ true
  from : list_all (nat_le low) (numbers_of parts) ≡ true

rises : (low : ℕ) (parts : List (List ℕ)) → rise low parts ≡ true → Rises low parts
rises low [] h = record { each = refl; up = refl; from = refl }
rises low (part ∷ parts) h =
    let x = number_of part in
    let xs = numbers_of parts in
    let all = and_parts (is_index_part part && nat_le low x) (rise (x + 1) parts) h in
    let here = and_parts (is_index_part part) (nat_le low x) all.0 in
    let others = rises (x + 1) parts all.1 in
    let larger = raised x xs others.from in
    record {
      each = and_from (is_index_part part) (list_all is_index_part parts) here.0 others.each;
      up = and_from (nat_le x (2 ^ 32 - 1) && list_all (nat_lt x) xs) (is_set xs)
          (and_from (nat_le x (2 ^ 32 - 1)) (list_all (nat_lt x) xs) (index-most x (and_parts (is_number part) (is_index x) here.0).1) larger) others.up;
      from = and_from (nat_le low x) (list_all (nat_le low) xs) here.1 (lowered low x xs (leb-true low x here.1) larger);
    }

rise-from : (low : ℕ) (parts : List (List ℕ)) → Rises low parts → rise low parts ≡ true
rise-from low [] h = refl
rise-from low (part ∷ parts) h =
    let x = number_of part in
    let xs = numbers_of parts in
    let each = and_parts (is_index_part part) (list_all is_index_part parts) h.each in
    let up = and_parts (nat_le x (2 ^ 32 - 1) && list_all (nat_lt x) xs) (is_set xs) h.up in
    let larger = (and_parts (nat_le x (2 ^ 32 - 1)) (list_all (nat_lt x) xs) up.0).1 in
    let from = and_parts (nat_le low x) (list_all (nat_le low) xs) h.from in
    and_from (is_index_part part && nat_le low x) (rise (x + 1) parts) (and_from (is_index_part part) (nat_le low x) each.0 from.0)
    (rise-from (x + 1) parts (record { each = each.1; up = up.1; from = above x xs larger }))

-- numbers that go up from 0 are a set
pub rise-start : (parts : List (List ℕ)) → rise 0 parts ≡ are_set_parts parts
rise-start parts = same_tests (rise 0 parts) (are_set_parts parts)
    (λ h. let up = rises 0 parts h in and_from (list_all is_index_part parts) (is_set (numbers_of parts)) up.each up.up)
    (λ h. let both = and_parts (list_all is_index_part parts) (is_set (numbers_of parts)) h in rise-from 0 parts (record { each = both.0; up = both.1; from = all_from_zero (numbers_of parts) }))
