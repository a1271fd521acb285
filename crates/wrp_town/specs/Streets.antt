-- What a list of streets says: its demands, its ends, and whether it makes a town.
use Rattle.std.specs.Prelude.{◌≡◌, ℕ, ◌+◌, ◌*◌, ◌≤◌, max, Bool, true, not, ◌&&◌, ◌==◌, nat_lt, nat_le, List, [], ◌∷◌, ◌++◌, length, Option, None, Some}
use Rattle.std.specs.List.{list_all, list_any}
use Rattle.std.specs.Str.{bytes_eq}
use Rattle.wrp_town.specs.declared.street.Need.{Need}
use Rattle.wrp_town.specs.declared.street.Need.TheVariants.{No, Either, Forward, Backward, Both}
use Rattle.wrp_town.specs.declared.street.Street.{Street}
use Rattle.wrp_town.specs.Limits.{junction_limit, street_limit, demand_limit, cost_limit}
use Rattle.wrp_town.specs.Names.{is_name}

-- the arc of a street from its first end to its second, and the arc back
abbrev pub forward_arc : ℕ → ℕ
forward_arc s = 2 * s

abbrev pub backward_arc : ℕ → ℕ
backward_arc s = 2 * s + 1

-- the demands of street s, in order: each a list of arcs, of which a tour uses at least one
abbrev pub demands_at : ℕ → Need → List (List ℕ)
demands_at s No = []
demands_at s Either = (forward_arc s ∷ backward_arc s ∷ []) ∷ []
demands_at s Forward = (forward_arc s ∷ []) ∷ []
demands_at s Backward = (backward_arc s ∷ []) ∷ []
demands_at s Both = (forward_arc s ∷ []) ∷ (backward_arc s ∷ []) ∷ []

-- the demands of streets that are numbered from s on
abbrev pub demands_from : ℕ → List Street → List (List ℕ)
demands_from s [] = []
demands_from s (street ∷ streets) = demands_at s street.need ++ demands_from (s + 1) streets

-- the junctions that the streets name, the first end of each before its second
abbrev pub ends_of : List Street → List ℕ
ends_of [] = []
ends_of (street ∷ streets) = street.from ∷ street.to ∷ ends_of streets

-- each number is there already, below seen, or is the next; at the end all n are there
abbrev pub come_in_order : ℕ → ℕ → List ℕ → Bool
come_in_order n seen [] = seen == n
come_in_order n seen (j ∷ js) = nat_le j seen && come_in_order n (max seen (j + 1)) js

-- no name is equal to one after it
abbrev pub are_different : List (List ℕ) → Bool
are_different [] = true
are_different (name ∷ names) = not (list_any (bytes_eq name) names) && are_different names

-- a direction that is illegal, or has a cost within the limit
abbrev pub is_cost : Option ℕ → Bool
is_cost None = true
is_cost (Some cost) = nat_le cost cost_limit

-- a street with a name, costs in range, and ends among n junctions
abbrev pub is_street : ℕ → Street → Bool
is_street n street =
    is_name street.name && is_cost street.forward && is_cost street.backward
    && nat_lt street.from n && nat_lt street.to n

-- the junctions and the streets of a town: within the limits, the junctions as they first appear
pub record IsTown (junctions : List (List ℕ)) (streets : List Street) : Type 0 where
  pub few_junctions : length junctions ≤ junction_limit
  pub few_streets : length streets ≤ street_limit
  pub few_demands : length (demands_from 0 streets) ≤ demand_limit
  pub named : list_all is_name junctions ≡ true
  pub different : are_different junctions ≡ true
  pub sound : list_all (is_street (length junctions)) streets ≡ true
  pub in_order : come_in_order (length junctions) 0 (ends_of streets) ≡ true
