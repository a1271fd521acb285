-- Sets of junctions, and what crosses them.
use Rattle.std.specs.Prelude.{ℕ, Bool, ◌&&◌, ◌||◌, not, nat_eq, List, slice_index}
use Rattle.std.specs.List.{list_any, count_by}
use Rattle.wrp_town.specs.declared.town.Town.{Town}
use Rattle.wrp_town.specs.Streets.{forward_arc}
use Rattle.wrp_town.specs.Arcs.{tail_of, head_of, demands, is_required}

-- the junction is in the set
abbrev pub is_in : List ℕ → ℕ → Bool
is_in set junction = list_any (nat_eq junction) set

-- the arc leaves the set
abbrev pub leaves : Town → List ℕ → ℕ → Bool
leaves town set arc = is_in set (tail_of town arc) && not (is_in set (head_of town arc))

-- the arc crosses the set: exactly one of its ends is in it
abbrev pub crosses : Town → List ℕ → ℕ → Bool
crosses town set arc =
    leaves town set arc || (not (is_in set (tail_of town arc)) && is_in set (head_of town arc))

-- an arc of the demand's street
abbrev pub arc_at : List ℕ → ℕ
arc_at demand = slice_index demand 0

-- how many demands have a street that crosses the set
abbrev pub crossing_demands : Town → List ℕ → ℕ
crossing_demands town set = count_by (λ demand. crosses town set (arc_at demand)) (demands town)

-- the street has both ends in the set, or none
abbrev pub lies_in : Town → List ℕ → ℕ → Bool
lies_in town set street =
    is_in set (tail_of town (forward_arc street)) && is_in set (head_of town (forward_arc street))

abbrev pub lies_outside : Town → List ℕ → ℕ → Bool
lies_outside town set street =
    not (is_in set (tail_of town (forward_arc street)))
    && not (is_in set (head_of town (forward_arc street)))

-- two required streets, one in the set and one outside, so that each tour leaves the set
abbrev pub is_parted : Town → ℕ → ℕ → List ℕ → Bool
is_parted town r1 r2 set =
    is_required town r1 && is_required town r2 && lies_in town set r1 && lies_outside town set r2
