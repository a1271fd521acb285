-- What contracts see of the source and the sink in memory that never fail.
use Rattle.std.specs.Prelude.{ℕ, ◌-◌, min, List, ◌++◌, length, take, ◌&&◌, not, ◌==◌, if◌then◌else◌, Some}
use Rattle.wrp_out.specs.Counts.{one_more}
use Rattle.wrp_out.specs.Outside.{Input, Output}

-- what was written, how many bytes it may hold, and the count of its empty takes
pub record Filled : Type 0 where
  pub written : List ℕ
  pub capacity : ℕ
  pub empties : ℕ

-- what any source and any sink show
abbrev pub input_of : List ℕ → Input
input_of left = record { left = Some left; faults = 0 }

abbrev pub output_of : Filled → Output
output_of sink = record { written = Some sink.written; faults = 0; empties = sink.empties }

-- how many bytes of a piece of this length there is room for
abbrev pub room_in : Filled → ℕ → ℕ
room_in sink piece = min piece (sink.capacity - length sink.written)

-- the first so many bytes of a piece were taken, which counts as empty where they are none of a
-- piece that isn't
abbrev pub filled_by : Filled → ℕ → List ℕ → Filled
filled_by old count bytes = record old {
  written = old.written ++ take count bytes;
  empties = if (count == 0) && not (length bytes == 0) then one_more old.empties else old.empties;
}
