-- What adding a payload does where there is a log, and where there is none.
use Rattle.std.specs.Prelude.{◌≡◌, ◌<◌, ◌≤◌, ℕ, List, length, Option, None, Some, Result, Ok, Err, IfSome, OnOk, OnErr, false}
use Rattle.wrp_disk.specs.Disks.{Meaning, AtEachMoment, Lasts}
use Rattle.wrp_out.specs.declared.source.Failed.{Failed}
use Rattle.wrp_log.specs.Payloads.{payload_limit, StandsFor, list_of}
use Rattle.wrp_log.specs.Logs.{Place, IsBeforeOrAfter, IsOn, Added, Upgraded, GivenUp, length_with}
use Rattle.wrp_log.specs.declared.fault.AppendFault.{AppendFault}
use Rattle.wrp_log.specs.declared.fault.AppendFault.TheVariants.{Full, Disk}

-- the log is on the disk and takes payloads, and this one isn't too long
pub record IsReady (payload : List ℕ) (log : Place) (disk : Meaning) : Type 0 where
  pub on : IsOn log disk
  pub begun : log.fresh ≡ false
  pub going : log.stopped ≡ false
  pub fits : length payload ≤ payload_limit log.version

-- a payload may be added, where there is a log
abbrev pub MayAppend : List ℕ → Option Place → Meaning → Type 0
MayAppend payload log disk = IfSome log (λ place. IsReady payload place disk)

-- a payload was added to a log on its disk, or why it was not
pub record Appends
    (payload : List ℕ) (old new : Place) (before after : Meaning) (result : Result Unit AppendFault)
    : Type 0 where
  pub added : OnOk result (Added payload old new before after)
  pub lasts : Lasts before after
  -- a crash at any moment leaves the payloads from before, or those and this one
  pub any_moment : IfSome before.told (λ bytes.
      AtEachMoment (IsBeforeOrAfter (list_of bytes) payload) before after)
  -- where there is no room
  pub full : old.limit < length_with payload old
      → (result ≡ Err (Full (length_with payload old) old.limit)) × (new ≡ old)
  pub failed : length_with payload old ≤ old.limit
      → OnErr result ((result ≡ Err Disk) × GivenUp old new before after)

-- the same where there is a log; where there is none, nothing is to be done
abbrev pub AppendsTo : List ℕ → Option Place → Option Place → Meaning → Meaning
    → Result Unit AppendFault → Type 0
AppendsTo payload None new before after result = (new ≡ None) × (result ≡ Ok tt)
AppendsTo payload (Some old) None before after result = ⊥
AppendsTo payload (Some old) (Some new) before after result =
    Appends payload old new before after result

-- no call of the disk is needed: there is no log, or no room
abbrev pub NeedsNoDisk : List ℕ → Option Place → Type 0
NeedsNoDisk payload None = Unit {0}
NeedsNoDisk payload (Some log) = log.limit < length_with payload log

-- ---- a log of version 1 becomes one of version 2

-- the log is on the disk, has version 1 and takes payloads
pub record IsOld (log : Place) (disk : Meaning) : Type 0 where
  pub on : IsOn log disk
  pub first_version : log.version ≡ 1
  pub begun : log.fresh ≡ false
  pub going : log.stopped ≡ false

abbrev pub MayUpgrade : Option Place → Meaning → Type 0
MayUpgrade None disk = ⊥
MayUpgrade (Some log) disk = IsOld log disk

-- the log has version 2, or is given up
pub record Upgrades (old new : Place) (before after : Meaning) (result : Result Unit Failed)
    : Type 0 where
  pub upgraded : OnOk result (Upgraded old new before after)
  pub lasts : Lasts before after
  -- a crash at any moment leaves the payloads from before
  pub any_moment : IfSome before.told (λ bytes.
      AtEachMoment (StandsFor (list_of bytes)) before after)
  pub failed : OnErr result (GivenUp old new before after)

abbrev pub UpgradesTo : Option Place → Option Place → Meaning → Meaning → Result Unit Failed
    → Type 0
UpgradesTo (Some old) (Some new) before after result = Upgrades old new before after result
UpgradesTo old new before after result = ⊥
