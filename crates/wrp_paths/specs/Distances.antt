-- Shortest walks over the legal arcs of a town.
use Rattle.std.specs.Prelude.{◌≡◌, ℕ, ◌<◌, ◌≤◌, true, List, length, slice_index_or, Option, None, Some}
use Rattle.wrp_town.specs.declared.street.Step.{Step}
use Rattle.wrp_town.specs.declared.town.Town.{Town}
use Rattle.wrp_town.specs.Walks.{leads, walk_cost}

-- legal steps lead from one junction to another, and none that lead there cost less
pub record IsShortest (town : Town) (from to : ℕ) (steps : List Step) : Type 0 where
  pub leads_there : leads town from steps to ≡ true
  pub least : (others : List Step) → leads town from others to ≡ true
      → walk_cost town steps ≤ walk_cost town others

-- no legal steps lead from one junction to another
abbrev pub HasNoWalk : Town → ℕ → ℕ → Type 0
HasNoWalk town from to = (steps : List Step) → leads town from steps to ≡ true → ⊥

-- a cost with a shortest walk of this cost, and none where no walk leads there
abbrev pub IsDistance : Town → ℕ → ℕ → Option (ℕ × List Step) → Type 0
IsDistance town from to (Some way) = IsShortest town from to way.1 × (walk_cost town way.1 ≡ way.0)
IsDistance town from to None = HasNoWalk town from to

-- for each junction a cost and a walk, where there is one
abbrev pub Ways : Type 0
Ways = List (Option (ℕ × List Step))

abbrev pub way_to : Ways → ℕ → Option (ℕ × List Step)
way_to ways j = slice_index_or ways j None

-- for each junction the cost of a shortest walk that leads there, and such a walk
pub record AreShortest (town : Town) (from : ℕ) (ways : Ways) : Type 0 where
  pub each : length ways ≡ length town.junctions
  pub shortest : (j : ℕ) → j < length town.junctions → IsDistance town from j (way_to ways j)
