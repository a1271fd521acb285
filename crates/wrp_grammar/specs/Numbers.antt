-- The first number of a line that breaks a rule.
use Rattle.std.specs.Prelude.{codes, ◌≡◌, ℕ, ◌+◌, ◌-◌, ◌^◌, ◌<◌, Bool, true, false, ◌&&◌, ◌||◌, if◌then◌else◌, nat_eq, nat_lt, nat_le, List, [], ◌∷◌, ◌++◌, drop, length, Contains}
use Rattle.std.specs.List.{list_all, list_any, starts_with}
use Rattle.wrp_rules.specs.declared.layout.Kind.{Kind}
use Rattle.wrp_rules.specs.declared.layout.Range.{Range}
use Rattle.wrp_rules.specs.declared.layout.Tail.{Tail}
use Rattle.wrp_rules.specs.declared.layout.Tail.TheVariants.{Nothing, Steps, Set, Multipliers, Pairs, Labels}
use Rattle.wrp_rules.specs.Layouts.{layout_of}
use Rattle.wrp_rules.specs.Ranges.{is_in_range}
use Rattle.wrp_rules.specs.Lines.{spaced}
use Rattle.wrp_grammar.specs.Parts.{parts_of, first_half, second_half, number_of, is_number, is_index_part, is_from_one_part, are_set_parts, is_step, are_multiplier_parts, are_pair_parts}
use Rattle.wrp_grammar.specs.Shapes.{is_slash, goes_on_in}

-- a leading number that is written right and in its range
abbrev pub is_range_part : Range → List ℕ → Bool
is_range_part range part = is_number part && is_in_range range (number_of part)

-- one part of what follows the leading numbers, where no order is kept
abbrev pub is_right_part : Tail → List ℕ → Bool
is_right_part Steps part = is_step part
is_right_part Labels part = is_slash part || is_index_part part
is_right_part tail part = is_index_part part

-- what follows the leading numbers keeps its rules
abbrev pub tail_keeps_rules : Tail → List (List ℕ) → Bool
tail_keeps_rules Nothing parts = true
tail_keeps_rules Set parts = are_set_parts parts
tail_keeps_rules (Multipliers most) parts = are_multiplier_parts most parts
tail_keeps_rules (Pairs most) parts = are_pair_parts most parts
tail_keeps_rules tail parts = list_all (is_right_part tail) parts

-- the first parts of a line keep the rules of numbers: they may be all of its parts or fewer
abbrev pub keeps_rules : List Range → Tail → List (List ℕ) → Bool
keeps_rules [] tail parts = tail_keeps_rules tail parts
keeps_rules (range ∷ ranges) tail [] = true
keeps_rules (range ∷ ranges) tail (part ∷ parts) =
    is_range_part range part && keeps_rules ranges tail parts

-- what is left of a line behind its word is in its layout, and its numbers keep the rules
abbrev pub is_right_behind : Kind → List ℕ → Bool
is_right_behind kind left =
    goes_on_in (layout_of kind) left
    && keeps_rules (layout_of kind).numbers (layout_of kind).tail (parts_of left)

-- the same for a line of this kind, and for a line of one of these kinds
abbrev pub is_right_in : Kind → List ℕ → Bool
is_right_in kind line =
    starts_with nat_eq line (layout_of kind).word
    && is_right_behind kind (drop (length (layout_of kind).word) line)

abbrev pub is_right_line : List Kind → List ℕ → Bool
is_right_line kinds line = list_any (λ kind. is_right_in kind line) kinds

-- the place in a part of its number that breaks a rule: that of the second number of a pair where
-- the first one breaks none, so that the pair would keep the rules with 1 for its second number;
-- else that of the first
abbrev pub place_in : (List (List ℕ) → Bool) → List (List ℕ) → List ℕ → ℕ
place_in keep before part =
    if keep (before ++ (first_half part ++ codes ":1") ∷ [])
    then length part - length (second_half part) else 0

-- the parts before this one keep the rules, and with it they are broken, whatever follows: there a
-- number stands at this place
pub record IsFirstBad (keep : List (List ℕ) → Bool) (left : List ℕ) (at : ℕ) : Type 0 where
  pub before : List (List ℕ)
  pub part : List ℕ
  pub after : List (List ℕ)
  pub parts : parts_of left ≡ before ++ part ∷ after
  pub good : keep before ≡ true
  pub bad : (more : List (List ℕ)) → keep (before ++ part ∷ more) ≡ false
  pub place : at ≡ length (spaced [] before) + 1 + place_in keep before part

-- where the rules are broken, the first number that breaks one stands at this place
abbrev pub IsPlaceOfBad : (List (List ℕ) → Bool) → List ℕ → ℕ → Type 0
IsPlaceOfBad keep left at = keep (parts_of left) ≡ false → IsFirstBad keep left at

-- the first number of a line of this kind that breaks a rule stands at this place
pub record IsFirstBadOf (kind : Kind) (line : List ℕ) (at : ℕ) : Type 0 where
  pub left : List ℕ
  pub text : line ≡ (layout_of kind).word ++ left
  pub behind : ℕ
  pub first : IsFirstBad (keeps_rules (layout_of kind).numbers (layout_of kind).tail) left behind
  pub place : at ≡ length (layout_of kind).word + behind

-- the same for a line of one of these kinds
pub record IsFirstBadNumber (kinds : List Kind) (line : List ℕ) (at : ℕ) : Type 0 where
  pub kind : Kind
  pub among : Contains kinds kind
  pub number : IsFirstBadOf kind line at

-- the limit of the second numbers of pairs isn't 0, and the code can read up to it
abbrev pub HasLimit : Tail → Type 0
HasLimit (Multipliers most) = 0 < most
HasLimit (Pairs most) = (0 < most) × (most < 2 ^ 99)
HasLimit tail = Unit {0}

-- pairs that keep the rules, and no more of them than there is room for
abbrev pub are_few_pairs : ℕ → ℕ → List (List ℕ) → Bool
are_few_pairs most room parts = are_pair_parts most parts && nat_le (length parts) room

-- the next pair's first number breaks no rule: it is written right and not below low, and has room
abbrev pub is_next_first : ℕ → ℕ → List ℕ → Bool
is_next_first low room part =
    is_index_part (first_half part) && (nat_lt 0 room && nat_le low (number_of (first_half part)))

-- the place of its second number, where its first breaks no rule; else that of the first
abbrev pub place_in_pair : ℕ → ℕ → List ℕ → ℕ
place_in_pair low room part =
    if is_next_first low room part then length part - length (second_half part) else 0

-- the first number of the next pair and its second number break no rule
abbrev pub is_next_pair : ℕ → ℕ → ℕ → List ℕ → Bool
is_next_pair most low room part =
    is_next_first low room part && is_from_one_part most (second_half part)
