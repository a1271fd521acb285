-- Lists of pairs, and the parts that spell them.
use Rattle.std.proofs.Common.{arith, false, Some, None, ◌≡◌, ℕ, ◌+◌, ◌-◌, ◌<◌, ◌≤◌, ◌^◌, Bool, true, cond, ◌&&◌, nat_lt, nat_le, List, [], ◌∷◌, map, length, refl, sym, ap, ◌∙◌}
use Rattle.std.proofs.Math.Bool.{and-true}
use Rattle.std.proofs.lemmas.Bool.{and_left, and_parts, and_from, ltb-true, leb-true, lt-ltb, le-leb}
use Rattle.std.proofs.lemmas.List.{length-map}
use Rattle.std.proofs.lemmas.List.Sums.{count_by-le-length}
use Rattle.std.proofs.lemmas.List.Splits.{length-slice_split}
use Rattle.std.specs.List.{list_all}
use Rattle.wrp_grammar.specs.Parts.{parts_of, is_number, number_of, first_half, second_half, is_pair, pair_of, is_space, are_multiplier_parts, are_pair_parts}
use Rattle.wrp_rules.specs.Ranges.{is_index, is_from_one, is_ascending, are_pairs}
use Rattle.wrp_grammar.proofs.Guards.{guard-some, guard-none}

-- each of a list is above the numbers below it
pub raised : (x : ℕ) (ys : List ℕ) → list_all (nat_le (x + 1)) ys ≡ true → list_all (nat_lt x) ys ≡ true
raised x [] h = refl
raised x (y ∷ ys) h =
    let both = and_parts (nat_le (x + 1) y) (list_all (nat_le (x + 1)) ys) h in
    and_from (nat_lt x y) (list_all (nat_lt x) ys) (lt-ltb x y (omega (arith, leb-true (x + 1) y both.0))) (raised x ys both.1)

pub lowered : (low x : ℕ) (ys : List ℕ) → low ≤ x → list_all (nat_lt x) ys ≡ true → list_all (nat_le low) ys ≡ true
lowered low x [] le h = refl
lowered low x (y ∷ ys) le h =
    let both = and_parts (nat_lt x y) (list_all (nat_lt x) ys) h in
    and_from (nat_le low y) (list_all (nat_le low) ys) (le-leb low y (omega (arith, ltb-true x y both.0))) (lowered low x ys le both.1)

pub above : (x : ℕ) (ys : List ℕ) → list_all (nat_lt x) ys ≡ true → list_all (nat_le (x + 1)) ys ≡ true
above x [] h = refl
above x (y ∷ ys) h =
    let both = and_parts (nat_lt x y) (list_all (nat_lt x) ys) h in
    and_from (nat_le (x + 1) y) (list_all (nat_le (x + 1)) ys) (le-leb (x + 1) y (omega (arith, ltb-true x y both.0))) (above x ys both.1)

-- the first numbers of pairs
abbrev pub firsts : List (ℕ × ℕ) → List ℕ
firsts pairs = map (λ q. q.0) pairs

-- pairs that go up from a first number that is low or more, and no more of them than there is room for
abbrev pub go_up : ℕ → ℕ → ℕ → List (List ℕ) → Bool
go_up most low room [] = true
go_up most low room (part ∷ parts) =
    (is_pair most part && (nat_lt 0 room && nat_le low (pair_of part).0)) && go_up most ((pair_of part).0 + 1) (room - 1) parts

-- the same, as the rules say it
pub record GoesUp (most low room : ℕ) (parts : List (List ℕ)) : Type 0 where
  pub each : list_all (is_pair most) parts ≡ true
  pub up : is_ascending (2 ^ 32 - 1) (firsts (map pair_of parts)) ≡ true
  pub from : list_all (nat_le low) (firsts (map pair_of parts)) ≡ true
  pub few : length parts ≤ room

pub index-most : (n : ℕ) → is_index n ≡ true → nat_le n (2 ^ 32 - 1) ≡ true
index-most n h = le-leb n (2 ^ 32 - 1) (omega (arith, ltb-true n (2 ^ 32) h))

pub index-of_most : (n : ℕ) → nat_le n (2 ^ 32 - 1) ≡ true → is_index n ≡ true
index-of_most n h = lt-ltb n (2 ^ 32) (omega (arith, leb-true n (2 ^ 32 - 1) h))

pub first-index : (most : ℕ) (part : List ℕ) → is_pair most part ≡ true → is_index (pair_of part).0 ≡ true
first-index most part h = (and_parts (is_number (first_half part)) (is_index (number_of (first_half part)))
    (and_parts (is_number (first_half part) && is_index (number_of (first_half part))) (is_number (second_half part) && is_from_one most (number_of (second_half part))) h).0).1

pub second-range : (most : ℕ) (part : List ℕ) → is_pair most part ≡ true → is_from_one most (pair_of part).1 ≡ true
second-range most part h = (and_parts (is_number (second_half part)) (is_from_one most (number_of (second_half part)))
    (and_parts (is_number (first_half part) && is_index (number_of (first_half part))) (is_number (second_half part) && is_from_one most (number_of (second_half part))) h).1).1

pub goes_up : (most low room : ℕ) (parts : List (List ℕ)) → go_up most low room parts ≡ true → GoesUp most low room parts
goes_up most low room [] h = record { each = refl; up = refl; from = refl; few = omega arith }
goes_up most low room (part ∷ parts) h =
    let x = (pair_of part).0 in
    let xs = firsts (map pair_of parts) in
    let all = and_parts (is_pair most part && (nat_lt 0 room && nat_le low x)) (go_up most (x + 1) (room - 1) parts) h in
    let here = and_parts (is_pair most part) (nat_lt 0 room && nat_le low x) all.0 in
    let tests = and_parts (nat_lt 0 room) (nat_le low x) here.1 in
    let others = goes_up most (x + 1) (room - 1) parts all.1 in
    let larger = raised x xs others.from in
    record {
      each = and_from (is_pair most part) (list_all (is_pair most) parts) here.0 others.each;
      up = and_from (nat_le x (2 ^ 32 - 1) && list_all (nat_lt x) xs) (is_ascending (2 ^ 32 - 1) xs)
          (and_from (nat_le x (2 ^ 32 - 1)) (list_all (nat_lt x) xs) (index-most x (first-index most part here.0)) larger) others.up;
      from = and_from (nat_le low x) (list_all (nat_le low) xs) tests.1 (lowered low x xs (leb-true low x tests.1) larger);
      few = omega (arith, ltb-true 0 room tests.0, others.few);
    }

pub go_up-from : (most low room : ℕ) (parts : List (List ℕ)) → GoesUp most low room parts → go_up most low room parts ≡ true
go_up-from most low room [] h = refl
go_up-from most low room (part ∷ parts) h =
    let x = (pair_of part).0 in
    let xs = firsts (map pair_of parts) in
    let each = and_parts (is_pair most part) (list_all (is_pair most) parts) h.each in
    let up = and_parts (nat_le x (2 ^ 32 - 1) && list_all (nat_lt x) xs) (is_ascending (2 ^ 32 - 1) xs) h.up in
    let larger = (and_parts (nat_le x (2 ^ 32 - 1)) (list_all (nat_lt x) xs) up.0).1 in
    let from = and_parts (nat_le low x) (list_all (nat_le low) xs) h.from in
    and_from (is_pair most part && (nat_lt 0 room && nat_le low x)) (go_up most (x + 1) (room - 1) parts)
    (and_from (is_pair most part) (nat_lt 0 room && nat_le low x) each.0 (and_from (nat_lt 0 room) (nat_le low x) (lt-ltb 0 room (omega (arith, h.few))) from.0))
    (go_up-from most (x + 1) (room - 1) parts (record { each = each.1; up = up.1; from = above x xs larger; few = omega (arith, h.few) }))

-- pairs that go up from 0 with room for 4,096 are multipliers
ranged : (most : ℕ) (parts : List (List ℕ)) → list_all (is_pair most) parts ≡ true → list_all (λ q. is_from_one most q.1) (map pair_of parts) ≡ true
ranged most [] h = refl
ranged most (part ∷ parts) h =
    let both = and_parts (is_pair most part) (list_all (is_pair most) parts) h in
    and_from (is_from_one most (pair_of part).1) (list_all (λ q. is_from_one most q.1) (map pair_of parts)) (second-range most part both.0) (ranged most parts both.1)

pub all_from_zero : (xs : List ℕ) → list_all (nat_le 0) xs ≡ true
all_from_zero [] = refl
all_from_zero (x ∷ xs) = and_from (nat_le 0 x) (list_all (nat_le 0) xs) (le-leb 0 x (omega arith)) (all_from_zero xs)

rising-parts : (most room : ℕ) (parts : List (List ℕ)) → (are_pair_parts most parts && nat_le (length parts) room) ≡ true → GoesUp most 0 room parts
rising-parts most room parts h =
    let pairs = map pair_of parts in
    let all = and_parts (are_pair_parts most parts) (nat_le (length parts) room) h in
    let both = and_parts (list_all (is_pair most) parts) (are_pairs most pairs) all.0 in
    let up = and_parts (is_ascending (2 ^ 32 - 1) (firsts pairs)) (list_all (λ q. is_from_one most q.1) pairs) both.1 in
    record { each = both.0; up = up.0; from = all_from_zero (firsts pairs); few = leb-true (length parts) room all.1 }

parts-rising : (most room : ℕ) (parts : List (List ℕ)) → GoesUp most 0 room parts → (are_pair_parts most parts && nat_le (length parts) room) ≡ true
parts-rising most room parts h =
    let pairs = map pair_of parts in
    and_from (are_pair_parts most parts) (nat_le (length parts) room)
    (and_from (list_all (is_pair most) parts) (are_pairs most pairs) h.each
    (and_from (is_ascending (2 ^ 32 - 1) (firsts pairs)) (list_all (λ q. is_from_one most q.1) pairs) h.up (ranged most parts h.each)))
    (le-leb (length parts) room h.few)

pub same_tests : (a b : Bool) → (a ≡ true → b ≡ true) → (b ≡ true → a ≡ true) → a ≡ b
same_tests true b f g = sym (f refl)
same_tests false true f g = g refl
same_tests false false f g = refl

pub go_up-start : (most room : ℕ) (parts : List (List ℕ)) → go_up most 0 room parts ≡ (are_pair_parts most parts && nat_le (length parts) room)
go_up-start most room parts = same_tests (go_up most 0 room parts) (are_pair_parts most parts && nat_le (length parts) room)
    (λ h. parts-rising most room parts (goes_up most 0 room parts h)) (λ h. go_up-from most 0 room parts (rising-parts most room parts h))

-- multipliers are at most 4,096 pairs
regroup : (a b c : Bool) → ((a && b) && c) ≡ (a && (b && c))
regroup true b c = refl
regroup false b c = refl

pub few_multipliers : (most : ℕ) (parts : List (List ℕ)) → (are_pair_parts most parts && nat_le (length parts) 4096) ≡ are_multiplier_parts most parts
few_multipliers most parts =
    regroup (list_all (is_pair most) parts) (are_pairs most (map pair_of parts)) (nat_le (length parts) 4096)
    ∙ ap (λ n. list_all (is_pair most) parts && (are_pairs most (map pair_of parts) && nat_le n 4096)) (sym (length-map parts pair_of))

-- each part takes a byte
pub few-parts : (left : List ℕ) → length (parts_of left) ≤ length left
few-parts [] = omega arith
few-parts (space ∷ bytes) = omega (arith, length-slice_split is_space bytes, count_by-le-length is_space bytes)

pub few_pairs : (most : ℕ) (left : List ℕ) → (are_pair_parts most (parts_of left) && nat_le (length (parts_of left)) (length left)) ≡ are_pair_parts most (parts_of left)
few_pairs most left = rw (le-leb (length (parts_of left)) (length left) (few-parts left)) (and-true (are_pair_parts most (parts_of left)))

-- pairs in a range are pairs in a greater one
widened : (most wide : ℕ) (part : List ℕ) → most ≤ wide → is_pair most part ≡ true → is_pair wide part ≡ true
widened most wide part le h =
    let first = is_number (first_half part) && is_index (number_of (first_half part)) in
    let n = number_of (second_half part) in
    let both = and_parts first (is_number (second_half part) && is_from_one most n) h in
    let second = and_parts (is_number (second_half part)) (is_from_one most n) both.1 in
    let range = and_parts (nat_le 1 n) (nat_le n most) second.1 in
    and_from first (is_number (second_half part) && is_from_one wide n) both.0
    (and_from (is_number (second_half part)) (is_from_one wide n) second.0
    (and_from (nat_le 1 n) (nat_le n wide) range.0 (le-leb n wide (omega (arith, leb-true n most range.1)))))

pub all-widened : (most wide : ℕ) (parts : List (List ℕ)) → most ≤ wide → list_all (is_pair most) parts ≡ true → list_all (is_pair wide) parts ≡ true
all-widened most wide [] le h = refl
all-widened most wide (part ∷ parts) le h =
    let both = and_parts (is_pair most part) (list_all (is_pair most) parts) h in
    and_from (is_pair wide part) (list_all (is_pair wide) parts) (widened most wide part le both.0) (all-widened most wide parts le both.1)

-- a part that may not come next, and one that may
abbrev may_come : ℕ → ℕ → ℕ → List ℕ → Bool
may_come most low room part = is_pair most part && (nat_lt 0 room && nat_le low (pair_of part).0)

pub go_up-stops : (most low room : ℕ) (part : List ℕ) (all parts : List (List ℕ)) (whole : Bool) → go_up most low room all ≡ whole → all ≡ part ∷ parts
    → None ≡ cond (may_come most low room part) (Some ((pair_of part).0 + 1)) None → false ≡ whole
go_up-stops most low room part all parts whole h e none =
    sym (and_left (may_come most low room part) (go_up most ((pair_of part).0 + 1) (room - 1) parts) (guard-none (may_come most low room part) ((pair_of part).0 + 1) none))
    ∙ sym (ap (go_up most low room) e) ∙ h

pub go_up-goes : (most low room next : ℕ) (part : List ℕ) (all parts : List (List ℕ)) (whole : Bool) → go_up most low room all ≡ whole → all ≡ part ∷ parts
    → Some next ≡ cond (may_come most low room part) (Some ((pair_of part).0 + 1)) None → (0 < room) × (go_up most next (room - 1) parts ≡ whole)
go_up-goes most low room next part all parts whole h e some =
    let found = guard-some (may_come most low room part) ((pair_of part).0 + 1) next some in
    let tests = and_parts (is_pair most part) (nat_lt 0 room && nat_le low (pair_of part).0) found.0 in (
      ltb-true 0 room (and_parts (nat_lt 0 room) (nat_le low (pair_of part).0) tests.1).0,
      ap (λ n. go_up most n (room - 1) parts) found.1
          ∙ ap (λ b. b && go_up most ((pair_of part).0 + 1) (room - 1) parts) (sym found.0)
          ∙ sym (ap (go_up most low room) e) ∙ h,
    )

-- ascending numbers are in range
pub ascending-index : (xs : List ℕ) → is_ascending (2 ^ 32 - 1) xs ≡ true → list_all is_index xs ≡ true
ascending-index [] h = refl
ascending-index (x ∷ xs) h =
    let both = and_parts (nat_le x (2 ^ 32 - 1) && list_all (nat_lt x) xs) (is_ascending (2 ^ 32 - 1) xs) h in
    and_from (is_index x) (list_all is_index xs) (index-of_most x (and_parts (nat_le x (2 ^ 32 - 1)) (list_all (nat_lt x) xs) both.0).0) (ascending-index xs both.1)
