-- Sets of junctions as tests, and the arcs between the two sides of a set.
use Rattle.std.specs.Prelude.{ℕ, Bool, ◌&&◌, ◌||◌, not}
use Rattle.wrp_town.specs.declared.town.Town.{Town}
use Rattle.wrp_town.specs.Arcs.{tail_of, head_of}

-- an arc goes out of the set, comes into it, or goes over its border
abbrev pub goes_out : Town → (ℕ → Bool) → ℕ → Bool
goes_out town set arc = set (tail_of town arc) && not (set (head_of town arc))

abbrev pub comes_in : Town → (ℕ → Bool) → ℕ → Bool
comes_in town set arc = not (set (tail_of town arc)) && set (head_of town arc)

abbrev pub goes_over : Town → (ℕ → Bool) → ℕ → Bool
goes_over town set arc = goes_out town set arc || comes_in town set arc
