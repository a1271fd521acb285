-- What the calls of a keep do with its list and its staged records.
use Rattle.std.specs.Prelude.{◌≡◌, ◌<◌, ◌≤◌, ◌+◌, ℕ, true, List, [], ◌∷◌, ◌++◌, length, Option, None, Some, Result, Ok, Err}
use Rattle.wrp_log.specs.Payloads.{payload_limit}
use Rattle.wrp_log.specs.Logs.{Place}
use Rattle.wrp_log.specs.declared.fault.AppendFault.{AppendFault}
use Rattle.wrp_log.specs.declared.fault.AppendFault.TheVariants as appends
use Rattle.wrp_rules.specs.declared.record.Record.{Record}
use Rattle.wrp_rules.specs.Lists.{is_valid}
use Rattle.wrp_keep.specs.declared.fault.AddFault.{AddFault}
use Rattle.wrp_keep.specs.declared.fault.AddFault.TheVariants as adds
use Rattle.wrp_keep.specs.declared.fault.StageFault.{StageFault}
use Rattle.wrp_keep.specs.declared.fault.StageFault.TheVariants as stages
use Rattle.wrp_keep.specs.declared.fault.FlushFault.{FlushFault}
use Rattle.wrp_keep.specs.declared.fault.FlushFault.TheVariants as flushes
use Rattle.wrp_keep.specs.Keeps.{KeepState, acknowledged_records, staged, joined, broken_by, version}

-- the list is valid, and begins with the one from before
pub record Extends (old new : KeepState) : Type 0 where
  pub town : new.town ≡ old.town
  pub more : List Record
  pub records : new.records ≡ old.records ++ more
  pub valid : is_valid new.town new.records ≡ true

-- the same records are acknowledged, by the same log
pub record SameAcknowledged (old new : KeepState) : Type 0 where
  pub town : new.town ≡ old.town
  pub log : new.log ≡ old.log
  pub records : acknowledged_records new ≡ acknowledged_records old

-- ---- staging

-- the record stands at the end of the list, and is staged
abbrev pub with_staged : Record → KeepState → KeepState
with_staged item keep = record keep { records = keep.records ++ item ∷ [] }

-- the length of the payload of the staged records and one more
abbrev pub length_staged : Record → KeepState → ℕ
length_staged item keep = length (joined (staged keep ++ item ∷ []))

-- the record may be staged, or the first reason why not, with the record
abbrev pub Stages : Record → KeepState → Result Unit StageFault → Type 0
Stages item keep (Ok x) =
    (broken_by item keep ≡ None) × (length_staged item keep ≤ payload_limit (version keep))
Stages item keep (Err (stages.Refused back rule)) =
    (broken_by item keep ≡ Some rule) × (back ≡ item)
Stages item keep (Err (stages.Long back length)) =
    (broken_by item keep ≡ None) × (length ≡ length_staged item keep)
    × (payload_limit (version keep) < length) × (back ≡ item)
Stages item keep (Err stages.Memory) = Unit {0}

-- ---- acknowledging

-- all records are acknowledged, by this log where there is one
abbrev pub acknowledged_by : Option Place → KeepState → KeepState
acknowledged_by log keep = record keep { acknowledged = length keep.records; log = log }

-- a flush acknowledges all records, or none
abbrev pub Flushes : KeepState → KeepState → Result Unit FlushFault → Type 0
Flushes old new (Ok x) = new ≡ acknowledged_by new.log old
Flushes old new (Err fault) = new ≡ record old { log = new.log }

-- what a flush answers of its payload
abbrev pub of_flush : Result Unit FlushFault → Result Unit AppendFault
of_flush (Ok x) = Ok x
of_flush (Err (flushes.Full length limit)) = Err (appends.Full length limit)
of_flush (Err flushes.Disk) = Err appends.Disk

-- ---- adding

-- the record stands at the end of the list, and all records are acknowledged
abbrev pub with_added : Record → Option Place → KeepState → KeepState
with_added item log keep = acknowledged_by log (with_staged item keep)

-- the record is added, or the list stays
abbrev pub Adds : Record → KeepState → KeepState → Result Unit AddFault → Type 0
Adds item old new (Ok x) = new ≡ with_added item new.log old
Adds item old new (Err fault) = new ≡ record old { log = new.log }

-- the record may be added, or the rule that it breaks first, with the record
abbrev pub Judges : Record → KeepState → Result Unit AddFault → Type 0
Judges item keep (Err (adds.Refused back rule)) =
    (broken_by item keep ≡ Some rule) × (back ≡ item)
Judges item keep (Err adds.Memory) = Unit {0}
Judges item keep result = broken_by item keep ≡ None

-- what an addition answers of its payload, if it came so far
abbrev pub of_add : Result Unit AddFault → Option (Result Unit AppendFault)
of_add (Ok x) = Some (Ok x)
of_add (Err (adds.Full length limit)) = Some (Err (appends.Full length limit))
of_add (Err adds.Disk) = Some (Err appends.Disk)
of_add (Err (adds.Refused back rule)) = None
of_add (Err adds.Memory) = None

-- the record isn't refused
abbrev pub IsUnrefused : Result Unit AddFault → Type 0
IsUnrefused (Err (adds.Refused back rule)) = ⊥
IsUnrefused result = Unit {0}
