-- The base rows as they are made: from the ends of the arcs, and from the arcs of the demands.
use Rattle.std.specs.Prelude.{ℕ, ◌&&◌, not, ◌==◌, if◌then◌else◌, ℤ, pos, negsuc, List, [], ◌∷◌, map}
use Rattle.std.specs.List.{filter}
use Rattle.wrp_town.specs.declared.town.Town.{Town}
use Rattle.wrp_town.specs.Arcs.{is_legal, tail_of, head_of}
use Rattle.wrp_rows.specs.Pools.{SparseRow}

-- the two ends of an arc, each with the arc, where it is legal and no loop
abbrev pub ends_at : Town → ℕ → List (ℕ × ℕ)
ends_at town arc =
    if is_legal town arc && not (tail_of town arc == head_of town arc)
    then (tail_of town arc, arc) ∷ (head_of town arc, arc) ∷ [] else []

-- 1 where the arc leaves the junction, else -1
abbrev pub sign_at : Town → ℕ → ℕ → ℤ
sign_at town junction arc = if tail_of town arc == junction then pos 1 else negsuc 0

-- the row of a junction with these arcs, each with its sign
abbrev pub star_row : Town → ℕ → List ℕ → SparseRow
star_row town junction star =
    record { terms = map (λ arc. (arc, sign_at town junction arc)) star; right_side = pos 0 }

-- the row of a demand, with 1 on its legal arcs
abbrev pub demand_row : Town → List ℕ → SparseRow
demand_row town demand =
    record { terms = map (λ arc. (arc, pos 1)) (filter (is_legal town) demand); right_side = pos 1 }
