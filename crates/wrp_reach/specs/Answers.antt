-- What tells whether a town has a tour: a component that holds every demand, or a Labels record.
use Rattle.std.specs.Prelude.{◌≡◌, ◌<◌, ℕ, Bool, true, false, List, [], ◌∷◌, length}
use Rattle.std.specs.List.{list_all}
use Rattle.wrp_town.specs.declared.street.Step.{Step}
use Rattle.wrp_town.specs.declared.town.Town.{Town}
use Rattle.wrp_town.specs.Arcs.{demands}
use Rattle.wrp_town.specs.Walks.{is_tour, HasNoTour}
use Rattle.wrp_rules.specs.declared.record.Record.{Record}
use Rattle.wrp_rules.specs.Rules.{is_labels}
use Rattle.wrp_rules.specs.Lists.{is_valid}
use Rattle.wrp_writer.specs.Limits.{is_writable}
use Rattle.wrp_reach.specs.declared.reach.Reach.{Reach}
use Rattle.wrp_reach.specs.declared.reach.Reach.TheVariants.{Joined, Split}
use Rattle.wrp_reach.specs.Reaching.{IsComponent, is_held}

-- a tour exists, and the part is a component that holds every demand: no junction where there is
-- no demand
pub record IsJoined (town : Town) (part : List ℕ) : Type 0 where
  pub tour : List Step
  pub serves : is_tour town tour ≡ true
  pub held : list_all (is_held town part) (demands town) ≡ true
  pub component : 0 < length (demands town) → IsComponent town part
  pub none : length (demands town) ≡ 0 → part ≡ []

-- no tour exists, and the record is a valid list by itself that shows it and may be written
pub record IsSplit (town : Town) (item : Record) : Type 0 where
  pub labels : is_labels item ≡ true
  pub writable : is_writable item ≡ true
  pub valid : is_valid town (item ∷ []) ≡ true
  pub no_tour : HasNoTour town

abbrev pub IsReach : Town → Reach → Type 0
IsReach town (Joined part) = IsJoined town part
IsReach town (Split item) = IsSplit town item

abbrev pub is_split : Reach → Bool
is_split (Joined part) = false
is_split (Split item) = true
