-- How the records of a log are read back.
use Rattle.std.specs.Prelude.{◌≡◌, ◌≢◌, ℕ, ◌+◌, ◌<◌, ◌≤◌, nat_eq, Bool, true, false, List, [], ◌∷◌, ◌++◌, length, take, drop, get_or, Option, None, Some, Result, Ok, Err, IfSome, IsSome}
use Rattle.std.specs.List.{All, flat_map, slice_split, slice_get}
use Rattle.wrp_log.specs.declared.fault.OpenFault.TheVariants as opens
use Rattle.wrp_out.specs.Counts.{Rose}
use Rattle.wrp_disk.specs.Disks.{Meaning, AtEachMoment}
use Rattle.wrp_log.specs.Payloads.{payloads_of, StandsFor, list_of}
use Rattle.wrp_log.specs.Logs.{Place, IsOn}
use Rattle.wrp_town.specs.declared.town.Town.{Town}
use Rattle.wrp_rules.specs.declared.record.Record.{Record}
use Rattle.wrp_rules.specs.declared.rule.Rule.{Rule}
use Rattle.wrp_rules.specs.Nodes.{standing}
use Rattle.wrp_rules.specs.Proofs.{line_feed}
use Rattle.wrp_rules.specs.Lists.{is_valid}
use Rattle.wrp_writer.specs.Limits.{is_writable}
use Rattle.wrp_proof.specs.JudgedLines.{judged_line}
use Rattle.wrp_keep.specs.Keeps.{KeepState, IsHeld, is_stopped}
use Rattle.wrp_keep.specs.declared.reading.RecordFault.{RecordFault}
use Rattle.wrp_keep.specs.declared.reading.RecordFault.TheVariants as records
use Rattle.wrp_keep.specs.declared.fault.ReopenFault.{ReopenFault}
use Rattle.wrp_keep.specs.declared.fault.ReopenFault.TheVariants as reopens

-- each record may be written
abbrev pub AreWritable : List Record → Type 0
AreWritable items = All (λ item. is_writable item ≡ true) items

-- ---- lines

-- the lines of a payload: its pieces between line feeds
abbrev pub lines_in : List ℕ → List (List ℕ)
lines_in payload = slice_split (λ byte. nat_eq byte line_feed) payload

-- a record that may follow, and what comes of it; or the number of its line, and the rule
abbrev pub read_on : Result Record Rule → ℕ → (Record → Result (List Record) (ℕ × Rule))
    → Result (List Record) (ℕ × Rule)
read_on (Ok item) number next = next item
read_on (Err rule) number next = Err (number, rule)

-- the list that goes on with the records of these lines; or the first line that spells none or whose
-- record breaks a rule, counted from 1 with the records before it, and the rule
abbrev pub read_after : Town → List Record → List (List ℕ) → Result (List Record) (ℕ × Rule)
read_after town before [] = Ok before
read_after town before (line ∷ lines) =
    read_on (judged_line town (standing town before) line) (length before + 1)
    (λ item. read_after town (before ++ item ∷ []) lines)

-- one more record, or why not
abbrev pub AddsLine : Town → List ℕ → List Record → List Record → Result Unit RecordFault → Type 0
AddsLine town line old new (Ok x) =
    (item : Record) × (judged_line town (standing town old) line ≡ Ok item)
    × (new ≡ old ++ item ∷ [])
AddsLine town line old new (Err (records.Broken rule)) =
    (judged_line town (standing town old) line ≡ Err rule) × (new ≡ old)
AddsLine town line old new (Err records.Memory) = Unit {0}

-- the records of these lines, or of those before the first that has none that may follow
abbrev pub AddsLines : Town → List (List ℕ) → List Record → List Record → Result Unit RecordFault
    → Type 0
AddsLines town lines old new (Ok x) = read_after town old lines ≡ Ok new
AddsLines town lines old new (Err (records.Broken rule)) =
    read_after town old lines ≡ Err (length new + 1, rule)
AddsLines town lines old new (Err records.Memory) = Unit {0}

-- ---- the table

-- the greatest number of bytes with which both begin
pub record IsCommon (at : ℕ) (one other : List ℕ) : Type 0 where
  pub same : take at one ≡ take at other
  pub in_one : at ≤ length one
  pub in_other : at ≤ length other
  pub differ : at < length one → at < length other → get_or one at 0 ≢ get_or other at 0

-- a log that was begun is on its disk, and so many of its payloads were replayed
pub record IsReplayedTo (count : ℕ) (log : Place) (disk : Meaning) : Type 0 where
  pub on : IsOn log disk
  pub begun : log.fresh ≡ false
  pub going : log.stopped ≡ false
  pub replayed : IfSome disk.told (λ bytes. log.replayed ≡ count)

-- one more payload was replayed, where there is one
abbrev pub IsOneOn : Bool → Place → Place → Type 0
IsOneOn more old new = (new ≡ record old { replayed = new.replayed; next = new.next })
    × (more ≡ true → new.replayed ≡ old.replayed + 1)

-- the first payload of a list is this table; or another one, or there is none
abbrev pub ChecksTable : List ℕ → List (List ℕ) → Option ReopenFault → Type 0
ChecksTable table payloads None = slice_get payloads 0 ≡ Some table
ChecksTable table payloads (Some (reopens.OtherTable at)) =
    (first : List ℕ) × (slice_get payloads 0 ≡ Some first) × (first ≢ table)
    × IsCommon at first table
ChecksTable table payloads (Some reopens.Disk) = Unit {0}
ChecksTable table payloads (Some fault) = ⊥

-- why it failed: the disk did
abbrev pub ReopenFails : Meaning → Meaning → ReopenFault → Type 0
ReopenFails before after reopens.Disk = Rose before.faults after.faults
ReopenFails before after fault = Unit {0}

-- the records of the next payload were added, where there is one; or why not
abbrev pub ReadsNext : Town → Option (List ℕ) → List Record → List Record
    → Result Bool ReopenFault → Type 0
ReadsNext town next old new (Ok true) = (payload : List ℕ) × (next ≡ Some payload)
    × (read_after town old (lines_in payload) ≡ Ok new)
ReadsNext town next old new (Ok false) = (next ≡ None) × (new ≡ old)
ReadsNext town next old new (Err (reopens.BadRecord index rule)) =
    (payload : List ℕ) × (next ≡ Some payload)
    × (read_after town old (lines_in payload) ≡ Err (index, rule))
ReadsNext town next old new (Err reopens.Disk) = Unit {0}
ReadsNext town next old new (Err reopens.Memory) = Unit {0}
ReadsNext town next old new (Err fault) = ⊥

-- the lines of these payloads, from one on
abbrev pub lines_from : ℕ → List (List ℕ) → List (List ℕ)
lines_from count payloads = flat_map lines_in (drop count payloads)

-- the records of the payloads from one on
abbrev pub ReadsFrom : ℕ → Town → List (List ℕ) → List Record → List Record → Option ReopenFault
    → Type 0
ReadsFrom count town payloads old new None =
    read_after town old (lines_from count payloads) ≡ Ok new
ReadsFrom count town payloads old new (Some (reopens.BadRecord index rule)) =
    read_after town old (lines_from count payloads) ≡ Err (index, rule)
ReadsFrom count town payloads old new (Some reopens.Disk) = Unit {0}
ReadsFrom count town payloads old new (Some reopens.Memory) = Unit {0}
ReadsFrom count town payloads old new (Some fault) = ⊥

-- ---- the answer

-- the answer on a disk that told these bytes, where the disk and the memory did not fail: the
-- records are those of the payloads behind the table
abbrev pub ReopenIs : Town → List ℕ → List ℕ → List Record → Option ReopenFault → Type 0
ReopenIs town table bytes records None =
    (payloads : List (List ℕ)) × StandsFor payloads bytes × (slice_get payloads 0 ≡ Some table)
    × (read_after town [] (lines_from 1 payloads) ≡ Ok records)
ReopenIs town table bytes records (Some (reopens.BadRecord index rule)) =
    (payloads : List (List ℕ)) × StandsFor payloads bytes × (slice_get payloads 0 ≡ Some table)
    × (read_after town [] (lines_from 1 payloads) ≡ Err (index, rule))
ReopenIs town table bytes records (Some (reopens.OtherTable at)) =
    (payloads : List (List ℕ)) × (first : List ℕ) × StandsFor payloads bytes
    × (slice_get payloads 0 ≡ Some first) × (first ≢ table) × IsCommon at first table
ReopenIs town table bytes records (Some reopens.NoRecords) = StandsFor [] bytes
ReopenIs town table bytes records (Some (reopens.NotALog size)) =
    payloads_of bytes ≡ Err (opens.NotALog size)
ReopenIs town table bytes records (Some (reopens.Broken at)) =
    payloads_of bytes ≡ Err (opens.Broken at)
ReopenIs town table bytes records (Some reopens.Disk) = Unit {0}
ReopenIs town table bytes records (Some reopens.Memory) = Unit {0}

-- a log that takes payloads is on its disk
pub record IsReady (log : Place) (disk : Meaning) : Type 0 where
  pub on : IsOn log disk
  pub begun : log.fresh ≡ false
  pub going : log.stopped ≡ false

-- the records of a keep that was opened again
abbrev pub records_in : {F : Type 0} → Result KeepState F → List Record
records_in (Ok keep) = keep.records
records_in (Err fault) = []

-- a keep of the town all of whose records are acknowledged, and whose log takes payloads
pub record IsReopened (town : Town) (disk : Meaning) (keep : KeepState) : Type 0 where
  pub town_is : keep.town ≡ town
  pub acknowledged : keep.acknowledged ≡ length keep.records
  pub valid : is_valid town keep.records ≡ true
  pub writable : AreWritable keep.records
  pub logged : IsSome keep.log
  pub going : is_stopped keep ≡ false
  pub held : IsHeld keep disk
