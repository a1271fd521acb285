-- The ranges and orders of the numbers of a line.
use Rattle.std.specs.Prelude.{ℕ, ◌-◌, ◌^◌, Bool, true, false, ◌&&◌, nat_lt, nat_le, List, [], ◌∷◌, map, length}
use Rattle.std.specs.List.{list_all}
use Rattle.wrp_rules.specs.declared.layout.Range.{Range}
use Rattle.wrp_rules.specs.declared.layout.Range.TheVariants.{Count, Index, FromOne}

-- numbers of a strictly ascending list, each at most that
abbrev pub is_ascending : ℕ → List ℕ → Bool
is_ascending most [] = true
is_ascending most (x ∷ xs) = nat_le x most && list_all (nat_lt x) xs && is_ascending most xs

-- a street, junction, row, arc, label or set number
abbrev pub is_index : ℕ → Bool
is_index n = nat_lt n (2 ^ 32)

-- a cost or the number of a node
abbrev pub is_count : ℕ → Bool
is_count n = nat_lt n (2 ^ 63)

-- from 1 on
abbrev pub is_from_one : ℕ → ℕ → Bool
is_from_one most n = nat_le 1 n && nat_le n most

-- a set of junctions
abbrev pub is_set : List ℕ → Bool
is_set set = is_ascending (2 ^ 32 - 1) set

-- pairs of ascending first numbers, the second numbers from 1 on
abbrev pub are_pairs : ℕ → List (ℕ × ℕ) → Bool
are_pairs most pairs =
    is_ascending (2 ^ 32 - 1) (map (λ q. q.0) pairs) && list_all (λ q. is_from_one most q.1) pairs

-- the greatest number of multipliers of a record
abbrev pub most_multipliers : ℕ
most_multipliers = 4096

-- so many multipliers of rows
abbrev pub are_multipliers : ℕ → List (ℕ × ℕ) → Bool
are_multipliers most pairs = are_pairs most pairs && nat_le (length pairs) most_multipliers

-- a leading number in its range, and leading numbers, each in its own
abbrev pub is_in_range : Range → ℕ → Bool
is_in_range Count n = is_count n
is_in_range Index n = is_index n
is_in_range (FromOne most) n = is_from_one most n

abbrev pub are_in_ranges : List Range → List ℕ → Bool
are_in_ranges [] [] = true
are_in_ranges (range ∷ ranges) (n ∷ ns) = is_in_range range n && are_in_ranges ranges ns
are_in_ranges ranges ns = false
