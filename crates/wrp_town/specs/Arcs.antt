-- The arcs of a town. Arc `2 * s` is street s from its first end to its second, arc `2 * s + 1` the
-- same back.
use Rattle.std.specs.Prelude.{ℕ, ◌+◌, ◌*◌, ◌/◌, ◌%◌, Bool, true, false, ◌&&◌, not, if◌then◌else◌, ◌==◌, nat_eq, nat_le, List, length, Option, is_some, slice_get}
use Rattle.std.specs.Option.{unwrap_or, option_map_or, option_and_then}
use Rattle.std.specs.List.{filter, list_all, list_any, range_with_len}
use Rattle.wrp_town.specs.declared.street.Street.{Street}
use Rattle.wrp_town.specs.declared.street.Step.{Step}
use Rattle.wrp_town.specs.declared.town.Town.{Town}
use Rattle.wrp_town.specs.Limits.{small_junction_limit, small_street_limit, small_demand_limit, small_cost_limit}
use Rattle.wrp_town.specs.Streets.{demands_at, demands_from}

-- the arc goes from the first end of its street to the second
abbrev pub is_forward : ℕ → Bool
is_forward arc = arc % 2 == 0

-- the street of an arc
abbrev pub street_of : Town → ℕ → Option Street
street_of town arc = slice_get town.streets (arc / 2)

-- what it costs to drive an arc, where that is legal
abbrev pub cost_of : Town → ℕ → Option ℕ
cost_of town arc =
    option_and_then (λ street. if is_forward arc then street.forward else street.backward)
    (street_of town arc)

-- the junction that an arc leaves
abbrev pub tail_of : Town → ℕ → ℕ
tail_of town arc =
    option_map_or (λ street. if is_forward arc then street.from else street.to)
    (street_of town arc) 0

-- the junction that an arc enters
abbrev pub head_of : Town → ℕ → ℕ
head_of town arc =
    option_map_or (λ street. if is_forward arc then street.to else street.from)
    (street_of town arc) 0

-- an arc is legal where its cost stands
abbrev pub is_legal : Town → ℕ → Bool
is_legal town arc = is_some (cost_of town arc)

-- the cost of an arc, and 0 where it is illegal
abbrev pub cost_or_zero : Town → ℕ → ℕ
cost_or_zero town arc = unwrap_or (cost_of town arc) 0

-- all arcs, and those that are legal
abbrev pub arcs : Town → List ℕ
arcs town = range_with_len 0 (2 * length town.streets)

abbrev pub legal_arcs : Town → List ℕ
legal_arcs town = filter (is_legal town) (arcs town)

-- all junctions
abbrev pub junctions : Town → List ℕ
junctions town = range_with_len 0 (length town.junctions)

-- the demands of the town in the order of their streets
abbrev pub demands : Town → List (List ℕ)
demands town = demands_from 0 town.streets

-- the street is there and has a demand
abbrev pub is_required : Town → ℕ → Bool
is_required town street =
    option_map_or (λ s. not (length (demands_at street s.need) == 0))
    (slice_get town.streets street) false

-- the arc is one of these
abbrev pub has_arc : List ℕ → ℕ → Bool
has_arc demand arc = list_any (nat_eq arc) demand

-- a cost, where there is one, within the limit of a small town
abbrev pub is_small_cost : Option ℕ → Bool
is_small_cost cost = option_map_or (λ c. nat_le c small_cost_limit) cost true

-- both directions of a street cost so little
abbrev pub has_small_costs : Street → Bool
has_small_costs street = is_small_cost street.forward && is_small_cost street.backward

-- few junctions, streets and demands, and small costs
abbrev pub is_small : Town → Bool
is_small town =
    nat_le (length town.junctions) small_junction_limit
    && nat_le (length town.streets) small_street_limit
    && nat_le (length (demands town)) small_demand_limit
    && list_all has_small_costs town.streets

-- the arc of a step
abbrev pub arc_of : Step → ℕ
arc_of step = 2 * step.street + (if step.back then 1 else 0)

-- the step along an arc
abbrev pub step_along : ℕ → Step
step_along arc = record { street = arc / 2; back = arc % 2 == 1 }
