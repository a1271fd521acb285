-- A log after its next payload was lent.
use Rattle.std.specs.Prelude.{◌≡◌, ℕ, List, Option, option_copied, Result, Ok, Err}
use Rattle.std.specs.Borrow.{Bor}
use Rattle.wrp_disk.specs.Disks.{Meaning}
use Rattle.wrp_log.specs.Logs.{Place, IsOn, replayed_in, stopped_at}

-- the log has passed the payload that was lent, or is given up
abbrev pub Passed : {E : Type 0} → Result (Option (Bor (List ℕ))) E → Place → Place → Type 0
Passed (Ok payload) old new = new ≡ replayed_in (option_copied payload) old
Passed (Err fault) old new = new ≡ stopped_at old

-- and it is on this disk
abbrev pub IsReplayed : {E : Type 0} → Result (Option (Bor (List ℕ))) E → Meaning → Place → Place
    → Type 0
IsReplayed result disk old new = Passed result old new × IsOn new disk
