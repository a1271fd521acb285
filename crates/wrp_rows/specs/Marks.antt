-- Marks of the junctions of a set: one for each junction.
use Rattle.std.specs.Prelude.{◌≡◌, ℕ, Bool, false, ◌&&◌, ◌||◌, not, List, slice_index_or}
use Rattle.wrp_rules.specs.Sets.{is_in}

abbrev pub is_marked : List Bool → ℕ → Bool
is_marked marks junction = slice_index_or marks junction false

-- the marked junctions are those of the set
abbrev pub AreMarks : List ℕ → List Bool → Type 0
AreMarks set marks = (junction : ℕ) → is_marked marks junction ≡ is_in set junction

-- one of the two is marked and the other isn't
abbrev pub differ : List Bool → ℕ → ℕ → Bool
differ marks i j =
    (is_marked marks i && not (is_marked marks j)) || (not (is_marked marks i) && is_marked marks j)
