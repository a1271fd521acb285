-- What a search found.
use Rattle.std.specs.Prelude.{◌≡◌, ◌+◌, ◌-◌, ◌≤◌, ℕ, true, List}
use Rattle.wrp_town.specs.declared.town.Town.{Town}
use Rattle.wrp_rules.specs.declared.record.Record.{Record}
use Rattle.wrp_rules.specs.declared.record.End.{End}
use Rattle.wrp_rules.specs.declared.record.End.TheVariants as ends
use Rattle.wrp_rules.specs.Nodes.{done, standing}
use Rattle.wrp_rules.specs.Lists.{agrees}
use Rattle.wrp_keep.specs.Keeps.{KeepState}
use Rattle.wrp_progress.specs.Progress.{IsOpenIn}
use Rattle.wrp_engine.specs.declared.found.Found.{Found}
use Rattle.wrp_engine.specs.declared.found.Found.TheVariants.{Optimal, Unfinished}
use Rattle.wrp_engine.specs.Searches.{now, IsOpenAt}

-- the end that is found
abbrev pub end_of : Found → End
end_of (Optimal cost) = ends.Optimal cost
end_of (Unfinished low high before after) = ends.Unfinished low high

-- the budget is spent, where a node is open
abbrev pub IsSpent : ℕ → KeepState → KeepState → Found → Type 0
IsSpent budget old new (Optimal cost) = Unit {0}
IsSpent budget old new (Unfinished low high before after) =
    (before ≡ done (now old)) × (after ≡ done (now new)) × (budget ≤ after - before)

-- the end agrees with the list, and the budget is spent where a node is open
pub record IsFound (budget : ℕ) (old new : KeepState) (found : Found) : Type 0 where
  pub agreeing : agrees (now new) (end_of found) ≡ true
  pub spent : IsSpent budget old new found

-- where a node is open, so many nodes more are done than before
abbrev pub HasWorked : ℕ → KeepState → KeepState → Type 0
HasWorked budget old new =
    (node : ℕ) → IsOpenAt new node → done (now old) + budget ≤ done (now new)

-- the numbers of nodes that were done before and are done now, where a node is open
abbrev pub CountsFrom : ℕ → Town → List Record → Found → Type 0
CountsFrom before town records (Optimal cost) = Unit {0}
CountsFrom before town records (Unfinished low high told after) =
    (told ≡ before) × (after ≡ done (standing town records))
    × ((node : ℕ) × IsOpenIn town records node)

-- the end agrees with the list
pub record FindsSince (before : ℕ) (town : Town) (records : List Record) (found : Found) : Type 0
  where
    pub agreeing : agrees (standing town records) (end_of found) ≡ true
    pub counts : CountsFrom before town records found
