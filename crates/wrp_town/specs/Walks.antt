-- Walks are lists of steps. A tour is a closed walk of legal steps that serves every demand.
use Rattle.std.specs.Prelude.{◌≡◌, ℕ, ◌≤◌, Bool, true, ◌&&◌, ◌==◌, List, [], ◌∷◌}
use Rattle.std.specs.List.{list_all, list_any, sum_by, count_by}
use Rattle.wrp_town.specs.declared.street.Step.{Step}
use Rattle.wrp_town.specs.declared.town.Town.{Town}
use Rattle.wrp_town.specs.Arcs.{arc_of, is_legal, tail_of, head_of, cost_or_zero, demands, has_arc}

-- the steps lead from junction i to junction j: each is legal and begins where the one before ends
abbrev pub leads : Town → ℕ → List Step → ℕ → Bool
leads town i [] j = i == j
leads town i (step ∷ steps) j =
    is_legal town (arc_of step) && tail_of town (arc_of step) == i
    && leads town (head_of town (arc_of step)) steps j

-- a closed walk leads back to where its first step begins; the empty list is one
abbrev pub is_closed_walk : Town → List Step → Bool
is_closed_walk town [] = true
is_closed_walk town (step ∷ steps) =
    let base = tail_of town (arc_of step) in leads town base (step ∷ steps) base

-- a walk serves a demand where a step on one of its arcs occurs in it
abbrev pub serves : List Step → List ℕ → Bool
serves steps demand = list_any (λ step. has_arc demand (arc_of step)) steps

-- it serves every demand of the town
abbrev pub serves_all : Town → List Step → Bool
serves_all town steps = list_all (serves steps) (demands town)

-- a closed walk that serves every demand
abbrev pub is_tour : Town → List Step → Bool
is_tour town steps = is_closed_walk town steps && serves_all town steps

-- the sum of the costs of the steps
abbrev pub walk_cost : Town → List Step → ℕ
walk_cost town steps = sum_by (λ step. cost_or_zero town (arc_of step)) steps

-- how many steps use the arc
abbrev pub count_of : List Step → ℕ → ℕ
count_of steps arc = count_by (λ step. arc_of step == arc) steps

-- a tour of this cost is there, and no tour costs less
pub record IsLeastCost (town : Town) (cost : ℕ) : Type 0 where
  pub tour : List Step
  pub serves : is_tour town tour ≡ true
  pub attained : walk_cost town tour ≡ cost
  pub least : (steps : List Step) → is_tour town steps ≡ true → cost ≤ walk_cost town steps

-- no closed walk serves every demand
abbrev pub HasNoTour : Town → Type 0
HasNoTour town = (steps : List Step) → is_tour town steps ≡ true → ⊥
