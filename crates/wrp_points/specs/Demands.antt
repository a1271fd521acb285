-- Demands as they are kept, and the numbers of their arcs.
use Rattle.std.specs.Prelude.{ℕ, ◌^◌, ◌≤◌, Bool, nat_lt, nat_le, List, ◌∷◌, slice_index}
use Rattle.std.specs.Option.{option_to_list}
use Rattle.std.specs.List.{list_all, sum_by}
use Rattle.wrp_points.specs.declared.service.Demand.{Demand}

-- the arcs of a demand
abbrev pub arcs_of : Demand → List ℕ
arcs_of demand = demand.first ∷ option_to_list demand.other

-- its arcs are among the first of this number
abbrev pub is_inside : ℕ → List ℕ → Bool
is_inside arcs demand = list_all (λ arc. nat_lt arc arcs) demand

-- two numbers of the table have a sum that fits
abbrev pub AreSmall : List ℕ → Type 0
AreSmall table = (arc : ℕ) → slice_index table arc ≤ 2 ^ 100

-- the numbers of the arcs are at least the denominator
abbrev pub is_met : List ℕ → ℕ → List ℕ → Bool
is_met table denominator demand = nat_le denominator (sum_by (slice_index table) demand)
