-- How a log is started: its first payload is the table of a town.
use Rattle.std.specs.Prelude.{◌≡◌, ◌⊎◌, ◌<◌, ◌≤◌, ◌+◌, ℕ, false, true, nat_le, nat_lt, ◌&&◌, if◌then◌else◌, Bool, List, [], ◌∷◌, length, Result, Ok, Err, Option, None, Some, IfSome, IsSome}
use Rattle.wrp_out.specs.Counts.{Rose}
use Rattle.wrp_disk.specs.Disks.{Meaning, EachImage, AtEachMoment}
use Rattle.wrp_log.specs.declared.fault.AppendFault.{AppendFault}
use Rattle.wrp_log.specs.declared.fault.AppendFault.TheVariants as appends
use Rattle.wrp_log.specs.declared.fault.OpenFault.TheVariants as opens
use Rattle.wrp_log.specs.Payloads.{head_size, payloads_of, StandsFor, list_of}
use Rattle.wrp_log.specs.Logs.{Place, IsOn, IsBeforeOrAfter, list_told}
use Rattle.wrp_log.specs.Sound.{IsSettledAt}
use Rattle.wrp_town.specs.declared.town.Town.{Town}
use Rattle.wrp_keep.specs.Keeps.{KeepState, IsHeld, is_stopped}
use Rattle.wrp_keep.specs.declared.fault.StartFault.{StartFault}
use Rattle.wrp_keep.specs.declared.fault.StartFault.TheVariants as starts

-- ---- the log

-- a log that was begun takes payloads, and has none
pub record IsEmpty (log : Place) (disk : Meaning) : Type 0 where
  pub on : IsOn log disk
  pub begun : log.fresh ≡ false
  pub going : log.stopped ≡ false
  pub none : log.count ≡ 0

-- where a log with no payload was fresh, it was begun; or why not
abbrev pub Begins : Place → Place → Meaning → Meaning → Result Unit AppendFault → Type 0
Begins old new before after (Ok x) =
    IsEmpty new after × (old.fresh ≡ true → head_size ≤ before.limit)
Begins old new before after (Err (appends.Full length limit)) =
    (old.fresh ≡ true) × (length ≡ head_size) × (limit ≡ before.limit) × (limit < length)
    × IsOn new after × (new.count ≡ 0)
Begins old new before after (Err appends.Disk) = Rose before.faults after.faults

-- the length that a log with no payload needs for its first one, or at first for its head
abbrev pub first_length : Bool → ℕ → List ℕ → ℕ
first_length fresh limit table =
    if fresh && nat_lt limit head_size then head_size else 14 + length table

-- the log takes payloads, and its only payload is the table
pub record IsStarted (table : List ℕ) (log : Place) (disk : Meaning) : Type 0 where
  pub on : IsOn log disk
  pub begun : log.fresh ≡ false
  pub going : log.stopped ≡ false
  pub list : IfSome (list_told disk) (λ payloads. payloads ≡ table ∷ [])

-- the table was put into a log with no payload; or why not
abbrev pub Puts : List ℕ → Place → Place → Meaning → Meaning → Result Unit AppendFault → Type 0
Puts table old new before after (Ok x) = IsStarted table new after
    × IfSome before.told (λ bytes. first_length old.fresh before.limit table ≤ before.limit)
Puts table old new before after (Err (appends.Full length limit)) =
    (limit ≡ before.limit) × (limit < length)
    × IsOn new after × (new.count ≡ 0)
    × IfSome before.told (λ bytes. length ≡ first_length old.fresh before.limit table)
Puts table old new before after (Err appends.Disk) = Rose before.faults after.faults

-- ---- the answer

-- the fault, where there is one
abbrev pub fault_of : {X F : Type 0} → Result X F → Option F
fault_of (Ok x) = None
fault_of (Err fault) = Some fault

-- the answer on a disk that told these bytes, where the disk and the memory did not fail
abbrev pub StartIs : List ℕ → List ℕ → ℕ → Option StartFault → Type 0
StartIs table bytes limit None = StandsFor [] bytes
    × (first_length (nat_le (length bytes) head_size) limit table ≤ limit)
StartIs table bytes limit (Some (starts.HasRecords count)) =
    (payloads : List (List ℕ)) × StandsFor payloads bytes × (count ≡ length payloads) × (0 < count)
StartIs table bytes limit (Some (starts.NotALog size)) =
    payloads_of bytes ≡ Err (opens.NotALog size)
StartIs table bytes limit (Some (starts.Broken at)) = payloads_of bytes ≡ Err (opens.Broken at)
StartIs table bytes limit (Some (starts.Full size most)) = StandsFor [] bytes
    × (size ≡ first_length (nat_le (length bytes) head_size) limit table)
    × (most ≡ limit) × (limit < size)
StartIs table bytes limit (Some starts.Disk) = Unit {0}
StartIs table bytes limit (Some starts.Memory) = Unit {0}

-- why it failed: the disk did, or there was no room
abbrev pub StartFails : Meaning → Meaning → StartFault → Type 0
StartFails before after (starts.Full size limit) = (limit ≡ before.limit) × (limit < size)
StartFails before after starts.Disk = Rose before.faults after.faults
StartFails before after fault = Unit {0}

-- ---- the disk

-- a crash leaves what it could before the call; or the bytes stood for no payloads, and it leaves
-- none, or the table alone
abbrev pub IsFirst : List ℕ → List ℕ → Meaning → List ℕ → Type 0
IsFirst table bytes before c = before.image c ⊎ (StandsFor [] bytes × IsBeforeOrAfter [] table c)

-- what the call leaves on a disk that told these bytes
abbrev pub StartLeaves : List ℕ → List ℕ → Meaning → Meaning → Option StartFault
    → Type 0
StartLeaves table bytes before after None = IsSettledAt (table ∷ []) after
StartLeaves table bytes before after (Some (starts.HasRecords count)) =
    (after.told ≡ before.told) × IsSettledAt (list_of bytes) after
StartLeaves table bytes before after (Some (starts.NotALog size)) =
    (after.told ≡ before.told) × EachImage before.image after
StartLeaves table bytes before after (Some (starts.Broken at)) =
    (after.told ≡ before.told) × EachImage before.image after
StartLeaves table bytes before after (Some (starts.Full size limit)) = IsSettledAt [] after
StartLeaves table bytes before after (Some starts.Disk) =
    EachImage before.image after ⊎ (StandsFor [] bytes × EachImage (IsBeforeOrAfter [] table) after)
StartLeaves table bytes before after (Some starts.Memory) = EachImage before.image after

-- all of it, on a disk that told these bytes
pub record Starts
    (table bytes : List ℕ) (before after : Meaning) (fault : Option StartFault) : Type 0 where
  pub exact : StartIs table bytes before.limit fault
  pub any_moment : AtEachMoment (IsFirst table bytes before) before after
  pub left : StartLeaves table bytes before after fault

-- a keep of the town with no records, whose log takes payloads
pub record IsNew (town : Town) (disk : Meaning) (keep : KeepState) : Type 0 where
  pub is : keep ≡ record { town = town; records = []; acknowledged = 0; log = keep.log }
  pub logged : IsSome keep.log
  pub going : is_stopped keep ≡ false
  pub held : IsHeld keep disk
