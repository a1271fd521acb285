-- A search: a keep of records and its disk, and how it goes on.
use Rattle.std.specs.Prelude.{◌≡◌, ◌<◌, ℕ, true, false, List, None, Result, Ok, Err, IsSome}
use Rattle.std.specs.List.{All}
use Rattle.wrp_out.specs.Counts.{Rose}
use Rattle.wrp_disk.specs.Disks.{Meaning, Lasts}
use Rattle.wrp_rules.specs.declared.record.Record.{Record}
use Rattle.wrp_rules.specs.Nodes.{Node, Standing, standing}
use Rattle.wrp_rules.specs.Lists.{is_valid}
use Rattle.wrp_writer.specs.Limits.{is_writable}
use Rattle.wrp_keep.specs.Keeps.{KeepState, is_stopped, version, IsHeld}
use Rattle.wrp_progress.specs.Progress.{GoesOn, IsOpenIn, IsDoneIn, node_in}
use Rattle.wrp_engine.specs.declared.fault.SearchFault.{SearchFault}
use Rattle.wrp_engine.specs.declared.fault.SearchFault.TheVariants.{Full, Disk, Memory}

-- a keep and its disk
pub record Search : Type 1 where
  pub keep : KeepState
  pub disk : Meaning

abbrev pub search_of : KeepState → Meaning → Search
search_of keep disk = record { keep = keep; disk = disk }

-- the list is valid, and records may be staged and acknowledged
pub record IsGoing (search : Search) : Type 0 where
  pub valid : is_valid search.keep.town search.keep.records ≡ true
  pub held : IsHeld search.keep search.disk
  pub going : is_stopped search.keep ≡ false
  pub version : version search.keep ≡ 2

-- each record may be written
abbrev pub AreWritable : List Record → Type 0
AreWritable items = All (λ item. is_writable item ≡ true) items

-- the list goes on with records that may be written, and time passes over the calls of the disk;
-- where there was no log, there is none
pub record Advances (old new : Search) : Type 0 where
  pub town : new.keep.town ≡ old.keep.town
  pub list : GoesOn old.keep.town old.keep.records new.keep.records
  pub writable : AreWritable old.keep.records → AreWritable new.keep.records
  pub bare : old.keep.log ≡ None → new.keep.log ≡ None
  pub lasts : Lasts old.disk new.disk

-- why a search stopped: want of memory, or what its log answered
abbrev pub HasCause : Search → Search → SearchFault → Type 0
HasCause old new Memory = Unit {0}
HasCause old new Disk = IsSome old.keep.log × Rose old.disk.faults new.disk.faults
HasCause old new (Full length limit) =
    IsSome old.keep.log × (limit ≡ old.disk.limit) × (limit < length)

-- the search may go on; or it stopped, with a cause
abbrev pub Leaves : {X : Type 0} → Search → Search → Result X SearchFault → Type 0
Leaves old new (Ok x) = Advances old new × IsGoing new
Leaves old new (Err fault) = Advances old new × HasCause old new fault

-- what the list stands for
abbrev pub now : KeepState → Standing
now keep = standing keep.town keep.records

-- a node of the list is open; is done; and as the list leaves it
abbrev pub IsOpenAt : KeepState → ℕ → Type 0
IsOpenAt keep node = IsOpenIn keep.town keep.records node

abbrev pub IsDoneAt : KeepState → ℕ → Type 0
IsDoneAt keep node = IsDoneIn keep.town keep.records node

abbrev pub at_node : KeepState → ℕ → Node
at_node keep node = node_in keep.town keep.records node
