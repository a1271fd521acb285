-- How a log is read from gate to gate.
use Rattle.std.specs.Prelude.{◌≡◌, ℕ, ◌+◌, ◌<◌, ◌≤◌, List, [], length, take, drop, Result, Ok, Err, nat_le, if◌then◌else◌}
use Rattle.wrp_log.specs.declared.fault.OpenFault.{OpenFault}
use Rattle.wrp_log.specs.declared.fault.OpenFault.TheVariants as faults
use Rattle.wrp_log.specs.declared.step.Step.{Step}
use Rattle.wrp_log.specs.declared.step.Step.TheVariants as steps
use Rattle.wrp_log.specs.Payloads.{gates, before_all, payloads_of, version_of, size_at, head_size, StandsFor, IsWritten, gate_after}
use Rattle.wrp_log.specs.Logs.{Place}

-- the step at a gate: these bytes begin with it
abbrev pub StepIs : ℕ → ℕ → List ℕ → Step → Type 0
StepIs limit at bytes steps.Closed = gates limit at 0 bytes ≡ Ok []
StepIs limit at bytes steps.Broken = gates limit at 0 bytes ≡ Err (faults.Broken at)
StepIs limit at bytes (steps.Open size) =
    (payload : List ℕ) × (length payload ≡ size) × (5 + size < length bytes)
    × (gates limit at 0 bytes
    ≡ before_all payload (gates limit (at + 5 + size) 0 (drop (5 + size) bytes)))

-- the payloads were counted up to the first closed gate, or one of them is broken
abbrev pub WalkIs : Result (ℕ × ℕ) OpenFault → Result (List (List ℕ)) OpenFault → Type 0
WalkIs (Ok place) read = (payloads : List (List ℕ)) × (read ≡ Ok payloads)
    × (place.0 ≡ length payloads) × (place.1 ≡ gate_after payloads)
WalkIs (Err (faults.Broken at)) read = read ≡ Err (faults.Broken at)
WalkIs (Err (faults.NotALog length)) read = ⊥
WalkIs (Err faults.Disk) read = Unit {0}
WalkIs (Err faults.Memory) read = ⊥

-- the version, the number of payloads and the first closed gate of a log, or its fault
abbrev pub PlaceIs : Result (ℕ × ℕ × ℕ) OpenFault → List ℕ → Type 0
PlaceIs (Ok place) bytes = (payloads : List (List ℕ)) × IsWritten place.0 payloads bytes
    × (place.1 ≡ length payloads) × (place.2 ≡ gate_after payloads)
PlaceIs (Err (faults.Broken at)) bytes = payloads_of bytes ≡ Err (faults.Broken at)
PlaceIs (Err (faults.NotALog length)) bytes = payloads_of bytes ≡ Err (faults.NotALog length)
PlaceIs (Err faults.Disk) bytes = Unit {0}
PlaceIs (Err faults.Memory) bytes = ⊥

-- the log of these bytes was opened, and nothing of it was replayed
pub record Opens (log : Place) (bytes : List ℕ) : Type 0 where
  pub payloads : List (List ℕ)
  pub stands : StandsFor payloads bytes
  pub count : log.count ≡ length payloads
  pub replayed : log.replayed ≡ 0
  pub fresh : log.fresh ≡ nat_le (length bytes) head_size
  pub version : log.version ≡ (if nat_le (length bytes) head_size then 2 else version_of bytes)

-- a log was opened, or is refused exactly so, where the disk and the memory did not fail
abbrev pub OpenIs : Result Place OpenFault → List ℕ → Type 0
OpenIs (Ok log) bytes = Opens log bytes
OpenIs (Err (faults.Broken at)) bytes = payloads_of bytes ≡ Err (faults.Broken at)
OpenIs (Err (faults.NotALog length)) bytes = payloads_of bytes ≡ Err (faults.NotALog length)
OpenIs (Err faults.Disk) bytes = Unit {0}
OpenIs (Err faults.Memory) bytes = Unit {0}

-- behind the gate at a place stand the length of this payload and the payload, and the next gate
-- comes no later than the last one
pub record HasPayload (at last : ℕ) (payload bytes : List ℕ) : Type 0 where
  pub size : size_at (drop (at + 1) bytes) ≡ length payload
  pub is : take (length payload) (drop (at + 5) bytes) ≡ payload
  pub four : at + 5 ≤ length bytes
  pub within : at + 5 + length payload ≤ last
