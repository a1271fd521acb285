-- What contracts see of a disk in memory, and what its calls do. Calls are numbered from 1.
use Rattle.std.specs.Prelude.{◌≡◌, ◌⊎◌, ℕ, ◌+◌, ◌≤◌, List, ◌∷◌, map, length, Option, Some, None, Contains, Result, Ok, Err}
use mathlib.Core.List.{reverse}
use Rattle.wrp_out.specs.Counts.{one_more}
use Rattle.wrp_disk.specs.Disks.{Meaning, IsLawful}
use Rattle.wrp_disk.specs.Changes.{Change, Wrote, Tore, Synced, bytes_after, IsImage, LeftSince}
use Rattle.wrp_disk.specs.Lasting.{now_counts, only_now, honest}
use Rattle.wrp_disk.specs.declared.change.MemChange.{MemChange}
use Rattle.wrp_disk.specs.declared.change.MemChange.TheVariants as kept

-- a change without where it lies in memory
abbrev pub change_of : MemChange → Change
change_of (kept.Wrote at bytes) = Wrote at bytes.items
change_of (kept.Tore at count) = Tore at count
change_of kept.Synced = Synced

-- those that were kept in order, the latest first
abbrev pub changes_of : List MemChange → List Change
changes_of kept = reverse (map change_of kept)

-- what the disk began with and its changes since, the latest first; its limit; how many calls there
-- were, how many failed, and how many growths found no memory; the numbers of the calls that fail,
-- and the number after which each fails
pub record Memory : Type 0 where
  pub first : List ℕ
  pub changes : List Change
  pub limit : ℕ
  pub calls : ℕ
  pub faults : ℕ
  pub starved : ℕ
  pub named : List ℕ
  pub stop : Option ℕ

-- ---- what any disk shows

-- of a disk that began with these bytes, and changed so
abbrev pub meaning_at : List ℕ → List Change → ℕ → ℕ → Meaning
meaning_at first changes limit faults = record {
  told = Some (bytes_after first changes);
  image = IsImage first changes;
  since = LeftSince first changes;
  moment = length changes;
  faults = faults;
  limit = limit;
}

abbrev pub meaning_of : Memory → Meaning
meaning_of m = meaning_at m.first m.changes m.limit m.faults

pub lawful_memory : (m : Memory) → IsLawful (meaning_of m)
lawful_memory m = record {
  counts = λ t c le is. now_counts m.first m.changes t c is;
  only_now = λ c is. only_now m.first m.changes c is;
  honest = honest m.first m.changes;
}

-- ---- which calls fail

-- the call after this many stands past the stop
abbrev pub IsPast : Option ℕ → ℕ → Type 0
IsPast None calls = ⊥
IsPast (Some stop) calls = stop ≤ calls

-- the next call fails: it is named, or stands past the stop
abbrev pub FailsNext : Memory → Type 0
FailsNext m = Contains m.named (m.calls + 1) ⊎ IsPast m.stop m.calls

-- one more call; one that failed; one that failed since a growth found no memory
abbrev pub called_once : Memory → Memory
called_once old = record old { calls = one_more old.calls }

abbrev pub failed_once : Memory → Memory
failed_once old = record old { calls = one_more old.calls; faults = one_more old.faults }

abbrev pub starved_once : Memory → Memory
starved_once old = record old {
  calls = one_more old.calls;
  faults = one_more old.faults;
  starved = one_more old.starved;
}

-- a call that changes nothing failed exactly as it is named or stopped
abbrev pub LooksAsNamed : {X E : Type 0} → Memory → Memory → Result X E → Type 0
LooksAsNamed old new (Ok x) = (¬ FailsNext old) × (new ≡ called_once old)
LooksAsNamed old new (Err fault) = FailsNext old × (new ≡ failed_once old)

-- a call whose change this is, and whose failure leaves that one, failed exactly as it is named or
-- stopped, or found no memory
abbrev pub ChangesAsNamed : {X E : Type 0} → Change → (Memory → Memory) → Memory → Memory
    → Result X E → Type 0
ChangesAsNamed change torn old new (Ok x) =
    (¬ FailsNext old) × (new ≡ record (called_once old) { changes = change ∷ old.changes })
ChangesAsNamed change torn old new (Err fault) =
    (FailsNext old × (new ≡ torn (failed_once old))) ⊎ (new ≡ starved_once old)

abbrev pub WritesAsNamed : {X E : Type 0} → ℕ → List ℕ → Memory → Memory → Result X E → Type 0
WritesAsNamed at bytes = ChangesAsNamed (Wrote at bytes)
    (λ m. record m { changes = Tore at (length bytes) ∷ m.changes })

abbrev pub SyncsAsNamed : {X E : Type 0} → Memory → Memory → Result X E → Type 0
SyncsAsNamed = ChangesAsNamed Synced (λ m. m)
