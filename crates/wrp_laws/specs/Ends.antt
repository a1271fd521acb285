-- What the end of a proof says of the tours of a town.
use Rattle.std.specs.Prelude.{◌≡◌, ℕ, ◌≤◌, true, List}
use Rattle.wrp_town.specs.declared.street.Step.{Step}
use Rattle.wrp_town.specs.declared.town.Town.{Town}
use Rattle.wrp_town.specs.Walks.{is_tour, walk_cost, IsLeastCost, HasNoTour}
use Rattle.wrp_rules.specs.declared.record.End.{End}
use Rattle.wrp_rules.specs.declared.record.End.TheVariants.{Optimal, Infeasible, Unfinished}

-- a tour of the cost high is there, and each tour costs at least low
pub record IsBetween (town : Town) (low high : ℕ) : Type 0 where
  pub tour : List Step
  pub serves : is_tour town tour ≡ true
  pub attained : walk_cost town tour ≡ high
  pub least : (steps : List Step) → is_tour town steps ≡ true → low ≤ walk_cost town steps

-- the end is true of the town
abbrev pub EndHolds : Town → End → Type 0
EndHolds town (Optimal cost) = IsLeastCost town cost
EndHolds town Infeasible = HasNoTour town
EndHolds town (Unfinished low high) = IsBetween town low high
