-- A log on its disk.
use Rattle.std.specs.Prelude.{◌≡◌, ◌⊎◌, ℕ, ◌+◌, ◌≤◌, List, [], ◌∷◌, ◌++◌, length, take, Option, Some, None, IfSome, IsSome, Bool, true, false}
use Rattle.std.specs.Option.{option_map}
use Rattle.byteorder.specs.Endian.{big_bytes}
use Rattle.wrp_out.specs.Counts.{Rose}
use Rattle.wrp_disk.specs.Disks.{Meaning, EachImage}
use Rattle.wrp_log.specs.Payloads.{payload_limit, closed_gate, head_size, StandsFor, IsWritten, list_of, gate_after}

-- the bytes stand for these payloads, or for them and one more
abbrev pub IsBeforeOrAfter : List (List ℕ) → List ℕ → List ℕ → Type 0
IsBeforeOrAfter payloads payload bytes =
    StandsFor payloads bytes ⊎ StandsFor (payloads ++ payload ∷ []) bytes

-- what contracts see of a log: whether it is not begun yet, or given up; its version; the number of
-- its payloads; the place of its first closed gate; the limit of its disk; how many payloads were
-- replayed, and the place of the gate of the next one
pub record Place : Type 0 where
  pub fresh : Bool
  pub stopped : Bool
  pub version : ℕ
  pub count : ℕ
  pub gate : ℕ
  pub limit : ℕ
  pub replayed : ℕ
  pub next : ℕ

-- the log stands at these payloads on the disk
pub record IsAt (log : Place) (payloads : List (List ℕ)) (disk : Meaning) : Type 0 where
  pub count : log.count ≡ length payloads
  pub gate : log.gate ≡ gate_after payloads
  pub replayed : log.replayed ≤ length payloads
  pub next : log.next ≡ gate_after (take log.replayed payloads)
  pub begun : log.fresh ≡ false → EachImage (IsWritten log.version payloads) disk
  pub fresh : log.fresh ≡ true → EachImage (λ c. length c ≤ head_size) disk

-- the log is on this disk: where the disk tells its bytes, all its images stand for the log's list
pub record IsOn (log : Place) (disk : Meaning) : Type 0 where
  pub limit : log.limit ≡ disk.limit
  pub settled : IfSome disk.told (λ bytes. IsAt log (list_of bytes) disk)

-- the list of a disk that tells its bytes
abbrev pub list_told : Meaning → Option (List (List ℕ))
list_told disk = option_map list_of disk.told

-- ---- what calls do

-- the log was begun in version 2, and has no payload
abbrev pub begun_at : Place → Place
begun_at log = record log {
  fresh = false;
  version = 2;
  count = 0;
  gate = 8;
  replayed = 0;
  next = 8;
}

-- a payload was added
abbrev pub added_to : List ℕ → Place → Place
added_to payload log = record log {
  count = log.count + 1;
  gate = log.gate + 5 + length payload;
}

-- the next payload was replayed, where there is one
abbrev pub replayed_in : Option (List ℕ) → Place → Place
replayed_in None log = log
replayed_in (Some payload) log = record log {
  replayed = log.replayed + 1;
  next = log.next + 5 + length payload;
}

-- the log is given up
abbrev pub stopped_at : Place → Place
stopped_at log = record log { stopped = true }

-- the length of the log with one payload more
abbrev pub length_with : List ℕ → Place → ℕ
length_with payload log = log.gate + 6 + length payload

-- ---- what calls leave, from a log and its disk before the call

-- the log was begun, and has no payload
pub record Began (old new : Place) (after : Meaning) : Type 0 where
  pub log : new ≡ begun_at old
  pub on : IsOn new after

-- the payload was added at the end of the list
pub record Added (payload : List ℕ) (old new : Place) (before after : Meaning) : Type 0 where
  pub log : new ≡ added_to payload old
  pub on : IsOn new after
  pub list : list_told after
      ≡ option_map (λ payloads. payloads ++ payload ∷ []) (list_told before)

-- the log has version 2, and the same list
pub record Upgraded (old new : Place) (before after : Meaning) : Type 0 where
  pub log : new ≡ record old { version = 2 }
  pub on : IsOn new after
  pub list : list_told after ≡ list_told before

-- the log is given up, since a call of its disk failed
pub record GivenUp (old new : Place) (before after : Meaning) : Type 0 where
  pub log : new ≡ stopped_at old
  pub rose : Rose before.faults after.faults

-- ---- what is written

-- what is written behind a gate: a length, a payload of that length, and a closed gate
pub record IsBlock (version : ℕ) (payload block : List ℕ) : Type 0 where
  pub is : block ≡ (big_bytes 4 (length payload) ++ payload) ++ closed_gate ∷ []
  pub fits : length payload ≤ payload_limit version

-- a disk that tells its bytes, all of whose images stand for these payloads
pub record Stands (version : ℕ) (payloads : List (List ℕ)) (gate : ℕ) (disk : Meaning) : Type 0
  where
    pub tells : IsSome disk.told
    pub images : EachImage (IsWritten version payloads) disk
    pub gate_is : gate ≡ gate_after payloads
