-- What the bytes of a log stand for: a mark and the byte of a version, a gate, and behind each open
-- gate a length, that many bytes of a payload, and the next gate.
use Rattle.std.specs.Prelude.{◌≡◌, ◌⊎◌, ℕ, zero, suc, ◌+◌, ◌^◌, ◌≤◌, List, [], ◌∷◌, length, get_or, take, drop, Result, Ok, Err, nat_lt, nat_le, nat_eq, ◌&&◌, not, if◌then◌else◌, Bool}
use Rattle.std.specs.Str.{bytes_eq}
use Rattle.byteorder.specs.Endian.{big_number}
use Rattle.wrp_log.specs.declared.fault.OpenFault.{OpenFault}
use Rattle.wrp_log.specs.declared.fault.OpenFault.TheVariants as faults

-- the bytes WRPLOG0 at the head of a log
abbrev pub mark : List ℕ
mark = 87 ∷ 82 ∷ 80 ∷ 76 ∷ 79 ∷ 71 ∷ 48 ∷ []

-- the byte behind the mark in version 2; version 1 has any other
abbrev pub second_version : ℕ
second_version = 50

-- the byte of an open gate, and that of a closed one which is written; any other is closed as well
abbrev pub open_gate : ℕ
open_gate = 1

abbrev pub closed_gate : ℕ
closed_gate = 0

-- the place of the first gate, and the size of a log with no payload
abbrev pub first_gate : ℕ
first_gate = 8

abbrev pub head_size : ℕ
head_size = 9

-- there are two versions
abbrev pub IsVersion : ℕ → Type 0
IsVersion version = (version ≡ 1) ⊎ (version ≡ 2)

abbrev pub version_of : List ℕ → ℕ
version_of bytes = if nat_eq (get_or bytes 7 0) second_version then 2 else 1

-- the greatest length of a payload
abbrev pub payload_limit : ℕ → ℕ
payload_limit version = if nat_eq version 2 then 2 ^ 28 else 2 ^ 24

-- the length that stands behind a gate
abbrev pub size_at : List ℕ → ℕ
size_at rest = big_number 4 rest

-- the payload that stands behind it
abbrev pub payload_at : List ℕ → List ℕ
payload_at rest = take (size_at rest) (drop 4 rest)

-- behind a gate: four bytes of a length within the limit, as many bytes, and one more
abbrev pub is_whole : ℕ → List ℕ → Bool
is_whole limit rest = nat_le 4 (length rest)
    && (nat_le (size_at rest) limit && nat_lt (4 + size_at rest) (length rest))

-- a payload before others, where these can be read
abbrev pub before_all : List ℕ → Result (List (List ℕ)) OpenFault → Result (List (List ℕ)) OpenFault
before_all payload (Ok payloads) = Ok (payload ∷ payloads)
before_all payload (Err fault) = Err fault

-- The payloads behind open gates, up to the first closed gate: the next gate stands in these bytes
-- after some that are passed over. The first of them stands at a place in the log.
unfoldable pub gates : ℕ → ℕ → ℕ → List ℕ → Result (List (List ℕ)) OpenFault
gates limit at pass [] = Ok []
gates limit at (suc pass) (byte ∷ rest) = gates limit (at + 1) pass rest
gates limit at zero (gate ∷ rest) =
    if not (nat_eq gate open_gate) then Ok []
    else if is_whole limit rest
    then before_all (payload_at rest) (gates limit (at + 1) (4 + size_at rest) rest)
    else Err (faults.Broken at)

-- the payloads of a log, or its fault
unfoldable pub payloads_of : List ℕ → Result (List (List ℕ)) OpenFault
payloads_of bytes =
    if nat_le (length bytes) head_size then Ok []
    else if bytes_eq (take 7 bytes) mark
    then gates (payload_limit (version_of bytes)) first_gate 0 (drop first_gate bytes)
    else Err (faults.NotALog (length bytes))

-- the bytes stand for these payloads
abbrev pub StandsFor : List (List ℕ) → List ℕ → Type 0
StandsFor payloads bytes = payloads_of bytes ≡ Ok payloads

abbrev pub ok_or_none : Result (List (List ℕ)) OpenFault → List (List ℕ)
ok_or_none (Ok payloads) = payloads
ok_or_none (Err _) = []

-- the list for which bytes stand, [] where they stand for none
abbrev pub list_of : List ℕ → List (List ℕ)
list_of bytes = ok_or_none (payloads_of bytes)

-- the place of the first closed gate after these payloads
abbrev pub gate_after : List (List ℕ) → ℕ
gate_after [] = first_gate
gate_after (payload ∷ payloads) = 5 + length payload + gate_after payloads

-- the bytes are a log of this version that was begun, with these payloads
pub record IsWritten (version : ℕ) (payloads : List (List ℕ)) (bytes : List ℕ) : Type 0 where
  pub long : head_size ≤ length bytes
  pub head : take 7 bytes ≡ mark
  pub same_version : version_of bytes ≡ version
  pub gates : gates (payload_limit version) first_gate 0 (drop first_gate bytes) ≡ Ok payloads
