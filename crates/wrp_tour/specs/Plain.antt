-- A walk from a base that serves one demand after the other within a component.
use Rattle.std.specs.Prelude.{◌≡◌, ℕ, ◌<◌, true, List, length}
use Rattle.std.specs.List.{Contains}
use Rattle.wrp_town.specs.declared.street.Need.{Need}
use Rattle.wrp_town.specs.declared.town.Town.{Town}
use Rattle.wrp_town.specs.Streets.{demands_at}
use Rattle.wrp_town.specs.Arcs.{is_legal, tail_of, head_of}
use Rattle.wrp_town.specs.Walks.{leads, serves}
use Rattle.wrp_rules.specs.Sets.{is_in}
use Rattle.wrp_reach.specs.Reaching.{AreStronglyConnected, is_held}
use Rattle.wrp_tour.specs.declared.plain.Round.{Round}

-- the steps lead from the base to where the walk is, from which the base can be reached
pub record IsRound (town : Town) (round : Round) : Type 0 where
  pub goes : leads town round.base round.steps.items round.at ≡ true
  pub base : round.base < length town.junctions
  pub there : round.at < length town.junctions
  pub strong : AreStronglyConnected town round.base round.at

-- the walk goes on from the same base
pub record GoesOn (town : Town) (old new : Round) : Type 0 where
  pub round : IsRound town new
  pub base : new.base ≡ old.base
  pub kept : (demand : List ℕ) → serves old.steps.items demand ≡ true
      → serves new.steps.items demand ≡ true

-- the arc can be driven within the component of the base
pub record IsNear (town : Town) (base arc : ℕ) : Type 0 where
  pub legal : is_legal town arc ≡ true
  pub tail : AreStronglyConnected town base (tail_of town arc)
  pub head : AreStronglyConnected town base (head_of town arc)

-- the junctions of the part are strongly connected with the base
abbrev pub IsHome : Town → List ℕ → ℕ → Type 0
IsHome town part base = (j : ℕ) → is_in part j ≡ true → AreStronglyConnected town base j

-- a demand of the street has an arc within the part
abbrev pub AreHeld : Town → List ℕ → ℕ → Need → Type 0
AreHeld town part street need =
    (demand : List ℕ) → Contains (demands_at street need) demand
    → is_held town part demand ≡ true

-- the walk serves the demands of the street
abbrev pub ServesStreet : Round → ℕ → Need → Type 0
ServesStreet round street need =
    (demand : List ℕ) → Contains (demands_at street need) demand
    → serves round.steps.items demand ≡ true
