-- The records of a table's bytes, and those that a reader of them has left.
use Rattle.std.specs.Prelude.{◌≡◌, ◌+◌, Bool, true, false, ℕ, List, [], length, Some, if◌then◌else◌, unwrap_or}
use Rattle.std.specs.Borrow.{Bor}
pub use Rattle.csv.specs.Records.{fields_of}
use Rattle.csv.specs.Machine.{ends_at_end}
use Rattle.csv.specs.Reading.{Ready, default_config, records, records_from, source_of, strip_bom}
use Rattle.csv.specs.declared.parser.State.{State}
use Rattle.csv.specs.declared.reader.Reader.{Reader}
use Rattle.csv.specs.declared.reader.Trim.TheVariants as trim

-- every record of a table: one leading mark is dropped, and a record is the list of its fields
abbrev pub records_of : List ℕ → List (List (List ℕ))
records_of bytes = records default_config (strip_bom bytes)

-- the records of the bytes that are left, from a state of the reader
abbrev pub records_left : State → List ℕ → List (List (List ℕ))
records_left state bytes = records_from default_config (length bytes + 1) state bytes

-- the bytes that a reader over a slice has left
abbrev pub bytes_in : Reader (Bor (List ℕ)) → List ℕ
bytes_in reader = unwrap_or (source_of (λ s. Some s.now) reader) []

-- a reader of records of any length, without header or trimming, that stands between two records
pub record Between (reader : Reader (Bor (List ℕ))) : Type 0 where
  pub trim : reader.trim ≡ trim.None
  pub ready : Ready reader
  pub flexible : reader.flexible ≡ true
  pub config : reader.config ≡ default_config
  pub between : ends_at_end reader.state ≡ false
  pub left : source_of (λ s. Some s.now) reader ≡ Some (bytes_in reader)

-- a reader that is not done stands between two records
abbrev pub CanRead : Bool → Reader (Bor (List ℕ)) → Type 0
CanRead is_done reader = is_done ≡ false → Between reader

-- the records left: none where the reader is done
abbrev pub left_in : Bool → Reader (Bor (List ℕ)) → List (List (List ℕ))
left_in is_done reader = if is_done then [] else records_left reader.state (bytes_in reader)
