-- The junctions at the other ends of the required streets of each junction.
use Rattle.std.specs.Prelude.{ℕ, ◌==◌, List, map}
use Rattle.std.specs.List.{filter}
use Rattle.wrp_town.specs.declared.town.Town.{Town}
use Rattle.wrp_town.specs.Arcs.{arcs, junctions, tail_of, head_of}
use Rattle.wrp_parts.specs.RequiredParts.{is_of_required}

-- the arcs of required streets
abbrev pub required_arcs : Town → List ℕ
required_arcs town = filter (is_of_required town) (arcs town)

-- a neighbour for each arc of a required street that leaves the junction
abbrev pub neighbours_at : Town → ℕ → List ℕ
neighbours_at town j =
    map (head_of town) (filter (λ arc. tail_of town arc == j) (required_arcs town))

abbrev pub neighbours_of : Town → List (List ℕ)
neighbours_of town = map (neighbours_at town) (junctions town)

-- those of some arcs whose streets are required, each as its two ends
abbrev pub required_ends_of : Town → List ℕ → List (ℕ × ℕ)
required_ends_of town arcs =
    map (λ arc. (tail_of town arc, head_of town arc)) (filter (is_of_required town) arcs)
