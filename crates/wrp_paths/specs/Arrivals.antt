-- Tables of walks: for each junction the last arc of a walk that leads there. The walk is read back
-- from them.
use Rattle.std.specs.Prelude.{ℕ, zero, suc, ◌+◌, List, [], ◌∷◌, ◌++◌, length, map, slice_index_or, Option, None}
use Rattle.std.specs.List.{range_with_len}
use Rattle.std.specs.Option.{option_map, option_map_or}
use Rattle.wrp_town.specs.declared.street.Step.{Step}
use Rattle.wrp_town.specs.declared.town.Town.{Town}
use Rattle.wrp_town.specs.Arcs.{head_of, cost_or_zero, step_along}
use Rattle.wrp_paths.specs.declared.arrival.Arrival.{Arrival}
use Rattle.wrp_paths.specs.Distances.{Ways}

-- a walk for each junction, where there is one
abbrev pub Table : Type 0
Table = List (Option Arrival)

-- the walk of no steps at a junction
abbrev pub start_at : ℕ → Arrival
start_at junction = record { cost = 0; hops = 0; junction = junction; before = junction; arc = 0 }

-- a walk that goes on along an arc
abbrev pub along : Town → Arrival → ℕ → Arrival
along town walk arc = record {
  cost = walk.cost + cost_or_zero town arc;
  hops = walk.hops + 1;
  junction = head_of town arc;
  before = walk.junction;
  arc = arc;
}

-- what a table holds of a junction
abbrev pub entry_at : Table → ℕ → Option Arrival
entry_at table j = slice_index_or table j None

-- the last steps of the walk to a junction, as many as are asked for
abbrev pub steps_to : Table → ℕ → ℕ → List Step
steps_to table zero j = []
steps_to table (suc hops) j =
    option_map_or (λ walk. steps_to table hops walk.before ++ step_along walk.arc ∷ [])
    (entry_at table j) []

-- the cost and the steps of the walk to a junction
abbrev pub way_at : Table → ℕ → Option (ℕ × List Step)
way_at table j = option_map (λ walk. (walk.cost, steps_to table walk.hops j)) (entry_at table j)

-- the same for each junction
abbrev pub ways_of : Table → Ways
ways_of table = map (way_at table) (range_with_len 0 (length table))
