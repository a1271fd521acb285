-- Which junctions reach each other by legal steps, and the components into which these part a town.
use Rattle.std.specs.Prelude.{◌≡◌, ℕ, ◌<◌, Bool, true, ◌&&◌, ◌↔◌, List, length}
use Rattle.std.specs.List.{filter, list_any}
use Rattle.wrp_town.specs.declared.street.Step.{Step}
use Rattle.wrp_town.specs.declared.town.Town.{Town}
use Rattle.wrp_town.specs.Arcs.{is_legal, tail_of, head_of, junctions}
use Rattle.wrp_town.specs.Walks.{leads}
use Rattle.wrp_rules.specs.Sets.{is_in}

-- legal steps lead from one junction to another
abbrev pub Reaches : Town → ℕ → ℕ → Type 0
Reaches town i j = (steps : List Step) × (leads town i steps j ≡ true)

-- two junctions are strongly connected where each reaches the other
abbrev pub AreStronglyConnected : Town → ℕ → ℕ → Type 0
AreStronglyConnected town i j = Reaches town i j × Reaches town j i

-- all junctions of one strongly connected component, ascending: that of the base
pub record IsComponent (town : Town) (part : List ℕ) : Type 0 where
  pub base : ℕ
  pub there : base < length town.junctions
  pub is_inside : ℕ → Bool
  pub inside : (j : ℕ) → j < length town.junctions
      → (is_inside j ≡ true) ↔ AreStronglyConnected town base j
  pub all : part ≡ filter is_inside (junctions town)

-- both ends of the arc are in the set
abbrev pub lies_within : Town → List ℕ → ℕ → Bool
lies_within town set arc = is_in set (tail_of town arc) && is_in set (head_of town arc)

-- a legal arc of the demand has both ends in the set
abbrev pub is_held : Town → List ℕ → List ℕ → Bool
is_held town set demand = list_any (λ arc. is_legal town arc && lies_within town set arc) demand
