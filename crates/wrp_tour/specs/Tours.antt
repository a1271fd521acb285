-- Tours that use each arc at most as often as there are demands.
use Rattle.std.specs.Prelude.{◌≡◌, ℕ, ◌≤◌, true, List, length}
use Rattle.wrp_town.specs.declared.street.Step.{Step}
use Rattle.wrp_town.specs.declared.town.Town.{Town}
use Rattle.wrp_town.specs.Arcs.{demands}
use Rattle.wrp_town.specs.Walks.{is_tour, count_of}

-- no arc is used more often than there are demands
abbrev pub UsesFew : Town → List Step → Type 0
UsesFew town steps = (arc : ℕ) → count_of steps arc ≤ length (demands town)

pub record IsLeanTour (town : Town) (steps : List Step) : Type 0 where
  pub tour : is_tour town steps ≡ true
  pub few : UsesFew town steps

-- the most steps of such a tour: each of two arcs of 4,000 streets, once for each of 4,000 demands
abbrev pub most_steps : ℕ
most_steps = 32000000

-- some steps are a tour
abbrev pub HasTour : Town → Type 0
HasTour town = (steps : List Step) × (is_tour town steps ≡ true)
