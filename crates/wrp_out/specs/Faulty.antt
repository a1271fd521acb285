-- What contracts see of the source and the sink in memory that fail at chosen calls, and what a
-- call does. Calls are numbered from 1.
use Rattle.std.specs.Prelude.{◌≡◌, ℕ, ◌+◌, min, List, ◌++◌, length, drop, Contains, Some, Result, Ok, Err, ◌⊎◌}
use Rattle.wrp_out.specs.Counts.{one_more}
use Rattle.wrp_out.specs.Outside.{Input, Output}

-- the bytes that are left, the numbers of the calls that fail, how many calls there were, and how
-- many failed
pub record Reading : Type 0 where
  pub left : List ℕ
  pub fail : List ℕ
  pub calls : ℕ
  pub faults : ℕ

-- the bytes that were written, the same three, and how many growths found no memory
pub record Writing : Type 0 where
  pub written : List ℕ
  pub fail : List ℕ
  pub calls : ℕ
  pub faults : ℕ
  pub starved : ℕ

-- what any source and any sink show
abbrev pub input_of : Reading → Input
input_of source = record { left = Some source.left; faults = source.faults }

abbrev pub output_of : Writing → Output
output_of sink = record { written = Some sink.written; faults = sink.faults; empties = 0 }

-- the call after this many is one of those that fail
abbrev pub FailsNext : List ℕ → ℕ → Type 0
FailsNext fail calls = Contains fail (calls + 1)

-- the call failed and is one of those, or it is none of them and took as many bytes as are left
-- and there is room for
abbrev pub ReadAsNamed : {E : Type 0} → Reading → Reading → ℕ → Result ℕ E → Type 0
ReadAsNamed old new room (Ok count) =
    (¬ FailsNext old.fail old.calls) × (count ≡ min room (length old.left))
    × (new ≡ record old { left = drop count old.left; calls = one_more old.calls })
ReadAsNamed old new room (Err fault) =
    FailsNext old.fail old.calls
    × (new ≡ record old { calls = one_more old.calls; faults = one_more old.faults })

-- one more call, which failed
abbrev pub failed_once : Writing → Writing
failed_once old = record old { calls = one_more old.calls; faults = one_more old.faults }

-- one more growth found no memory
abbrev pub starved_once : Writing → Writing
starved_once old = record old { starved = one_more old.starved }

-- the call is none of those and took the whole piece; or it failed, since it is one of those or
-- found no memory
abbrev pub WroteAsNamed : {E : Type 0} → Writing → Writing → List ℕ → Result ℕ E → Type 0
WroteAsNamed old new bytes (Ok count) =
    (¬ FailsNext old.fail old.calls) × (count ≡ length bytes)
    × (new ≡ record old { written = old.written ++ bytes; calls = one_more old.calls })
WroteAsNamed old new bytes (Err fault) =
    (FailsNext old.fail old.calls × (new ≡ failed_once old))
    ⊎ ((¬ FailsNext old.fail old.calls) × (new ≡ starved_once (failed_once old)))
