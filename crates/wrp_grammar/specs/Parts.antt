-- The parts of a line: numbers, steps and pairs, each written in one way.
use Rattle.std.specs.Prelude.{ℕ, ◌-◌, ◌^◌, Bool, true, ◌&&◌, ◌||◌, not, ◌==◌, nat_lt, nat_le, List, [], ◌∷◌, map, length, take, slice_index}
use Rattle.std.specs.Char.{is_ascii_digit}
use Rattle.std.specs.List.{list_all, slice_split, before_first, after_first}
use Rattle.std.specs.Str.Parse.{digits_value}
use Rattle.wrp_town.specs.declared.street.Step.{Step}
use Rattle.wrp_rules.specs.Ranges.{is_index, is_count, is_from_one, is_set, are_pairs, are_multipliers}

-- the bytes of a line that aren't digits, and the digit zero
abbrev pub space : ℕ
space = 32

abbrev pub colon : ℕ
colon = 58

abbrev pub plus : ℕ
plus = 43

abbrev pub minus : ℕ
minus = 45

abbrev pub zero_digit : ℕ
zero_digit = 48

-- a byte that stands before each part
abbrev pub is_space : ℕ → Bool
is_space byte = byte == space

-- the parts of what is left of a line, a space before each part
abbrev pub parts_of : List ℕ → List (List ℕ)
parts_of [] = []
parts_of (space ∷ bytes) = slice_split is_space bytes

-- it is empty or begins with a space
abbrev pub is_spaced : List ℕ → Bool
is_spaced [] = true
is_spaced (byte ∷ bytes) = is_space byte

-- one or more digits
abbrev pub is_digits : List ℕ → Bool
is_digits part = nat_lt 0 (length part) && list_all is_ascii_digit part

-- one or more digits, without a leading zero
abbrev pub is_number : List ℕ → Bool
is_number part = is_digits part
    && (nat_le (length part) 1 || not (slice_index part 0 == zero_digit))

-- the value of the digits
abbrev pub number_of : List ℕ → ℕ
number_of part = digits_value 10 part

-- a number that is written right and in its range
abbrev pub is_count_part : List ℕ → Bool
is_count_part part = is_number part && is_count (number_of part)

abbrev pub is_index_part : List ℕ → Bool
is_index_part part = is_number part && is_index (number_of part)

abbrev pub is_from_one_part : ℕ → List ℕ → Bool
is_from_one_part most part = is_number part && is_from_one most (number_of part)

-- the numbers that parts spell
abbrev pub numbers_of : List (List ℕ) → List ℕ
numbers_of parts = map number_of parts

-- numbers of a set, written right and strictly ascending
abbrev pub are_set_parts : List (List ℕ) → Bool
are_set_parts parts = list_all is_index_part parts && is_set (numbers_of parts)

-- what stands before the sign of a step, and the sign: `+` or `-`
abbrev pub street_part : List ℕ → List ℕ
street_part part = take (length part - 1) part

abbrev pub sign_of : List ℕ → ℕ
sign_of part = slice_index part (length part - 1)

abbrev pub is_sign : ℕ → Bool
is_sign byte = (byte == plus) || (byte == minus)

-- a step in its shape, and one that is written right
abbrev pub is_step_shape : List ℕ → Bool
is_step_shape part = is_sign (sign_of part) && is_digits (street_part part)

abbrev pub is_step : List ℕ → Bool
is_step part = is_sign (sign_of part) && (is_number (street_part part)
    && is_index (number_of (street_part part)))

-- the step that a part spells
abbrev pub step_of : List ℕ → Step
step_of part = record { street = number_of (street_part part); back = sign_of part == minus }

-- what stands before the colon of a pair, and after it
abbrev pub is_colon : ℕ → Bool
is_colon byte = byte == colon

abbrev pub first_half : List ℕ → List ℕ
first_half part = before_first is_colon part

abbrev pub second_half : List ℕ → List ℕ
second_half part = after_first is_colon part

-- a pair in its shape, and one that is written right, its second number from 1 to most
abbrev pub is_pair_shape : List ℕ → Bool
is_pair_shape part = is_digits (first_half part) && is_digits (second_half part)

abbrev pub is_pair : ℕ → List ℕ → Bool
is_pair most part =
    is_number (first_half part) && is_index (number_of (first_half part))
    && (is_number (second_half part) && is_from_one most (number_of (second_half part)))

-- the pair that a part spells
abbrev pub pair_of : List ℕ → ℕ × ℕ
pair_of part = (number_of (first_half part), number_of (second_half part))

-- pairs that are written right and are multipliers
abbrev pub are_multiplier_parts : ℕ → List (List ℕ) → Bool
are_multiplier_parts most parts = list_all (is_pair most) parts
    && are_multipliers most (map pair_of parts)

-- pairs that are written right, their first numbers ascending
abbrev pub are_pair_parts : ℕ → List (List ℕ) → Bool
are_pair_parts most parts = list_all (is_pair most) parts && are_pairs most (map pair_of parts)

-- the greatest second number of a pair that a view holds
abbrev pub most_second : ℕ
most_second = 2 ^ 72
