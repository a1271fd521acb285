-- What a run of the search may add to its list, and with which budget it comes to an end.
use Rattle.std.specs.Prelude.{◌≡◌, ◌≤◌, ◌+◌, ◌*◌, ◌^◌, ℕ, ⊤, List, ◌++◌, length}
use Rattle.wrp_town.specs.declared.town.Town.{Town}
use Rattle.wrp_town.specs.Arcs.{demands, legal_arcs}
use Rattle.wrp_rules.specs.declared.record.Record.{Record}
use Rattle.wrp_rules.specs.Nodes.{done}
use Rattle.wrp_licence.specs.Causes.{AreCaused}
use Rattle.wrp_keep.specs.Keeps.{KeepState}
use Rattle.wrp_engine.specs.declared.found.Found.{Found}
use Rattle.wrp_engine.specs.declared.found.Found.TheVariants.{Optimal}
use Rattle.wrp_engine.specs.Searches.{now}
use Rattle.wrp_engine.specs.Additions.{tours_of}

-- each record that was added to the list has its cause, and they are few for the budget
pub record IsForced (town : Town) (budget : ℕ) (entry added : List Record) : Type 0 where
  pub caused : AreCaused town entry added
  pub records : length added ≤ 8 * budget + 60001
  pub tours : tours_of added ≤ 2 * budget + 20001

-- such records were added, and no fewer nodes are done
pub record AddsForced (budget : ℕ) (old new : KeepState) : Type 0 where
  pub added : List Record
  pub is : new.records ≡ old.records ++ added
  pub forced : IsForced old.town budget old.records added
  pub done_grows : done (now old) ≤ done (now new)

-- more than the number of nodes of any list of the town: 2 * (m + 1) ^ a, for m demands and a legal
-- arcs
abbrev pub above_done : Town → ℕ
above_done town = 2 * (length (demands town) + 1) ^ length (legal_arcs town)

-- the cheapest tour was found
abbrev pub EndsOptimal : Found → Type 0
EndsOptimal (Optimal cost) = ⊤
EndsOptimal found = ⊥
