-- The street table: a header and a row for each street.
use Rattle.std.specs.Prelude.{◌≡◌, ℕ, ◌+◌, if◌then◌else◌, nat_lt, List, [], ◌∷◌, ◌++◌, length, Result, Ok, Err}
use Rattle.std.specs.List.{list_any, position_or_len}
use Rattle.std.specs.Str.{bytes_eq}
use Rattle.wrp_records.specs.Streams.{records_of}
use Rattle.wrp_street.specs.Headers.{is_header}
use Rattle.wrp_town.specs.declared.street.Street.{Street}
use Rattle.wrp_town.specs.declared.town.Town.{Town}
use Rattle.wrp_town.specs.Limits.{street_limit, junction_limit, demand_limit}
use Rattle.wrp_town.specs.Streets.{demands_from}
use Rattle.wrp_street.specs.declared.table.TableFault.{TableFault}
use Rattle.wrp_street.specs.declared.table.TableFault.TheVariants as faults
use Rattle.wrp_street.specs.declared.row.Row.{Row}
use Rattle.wrp_street.specs.Faults.{◌>>=◌, Fails}
use Rattle.wrp_street.specs.Rows.{row_of}

-- the junctions and the streets that a table names
pub record Table : Type 0 where
  pub junctions : List (List ℕ)
  pub streets : List Street

-- the table of no rows
abbrev pub no_rows : Table
no_rows = record { junctions = []; streets = [] }

-- the junctions with one more, unless it is there
abbrev pub with_junction : List (List ℕ) → List ℕ → List (List ℕ)
with_junction names name = if list_any (bytes_eq name) names then names else names ++ name ∷ []

-- the junctions with both ends of a row
abbrev pub with_ends : List (List ℕ) → Row → List (List ℕ)
with_ends names row = with_junction (with_junction names row.from) row.to

-- the place of a name among the junctions
abbrev pub number_of : List (List ℕ) → List ℕ → ℕ
number_of names name = position_or_len (bytes_eq name) names

-- the street of a row, its ends by their numbers among the junctions
abbrev pub street_in : List (List ℕ) → Row → Street
street_in names row = record {
  name = row.street;
  from = number_of names row.from;
  to = number_of names row.to;
  forward = row.forward;
  backward = row.backward;
  need = row.need;
}

-- the table with one more row
abbrev pub with_row : Table → Row → Table
with_row table row = record {
  junctions = with_ends table.junctions row;
  streets = table.streets ++ street_in (with_ends table.junctions row) row ∷ [];
}

-- the number of the next row
abbrev pub next_row : Table → ℕ
next_row table = length table.streets + 1

-- the table, if it is within the limits of a town: streets, then junctions, then demands
unfoldable pub within_limits : ℕ → Table → Result Table TableFault
within_limits row table =
    if nat_lt street_limit (length table.streets) then Err (faults.Streets row)
    else if nat_lt junction_limit (length table.junctions) then Err (faults.Junctions row)
    else if nat_lt demand_limit (length (demands_from 0 table.streets))
    then Err (faults.Demands row)
    else Ok table

-- the table with one more record as a row, or the first fault of that record
abbrev pub with_record : Table → List (List ℕ) → Result Table TableFault
with_record table fields =
    row_of (next_row table) fields
    >>= λ row. within_limits (next_row table) (with_row table row)

-- the table with more records as rows, or the first fault
unfoldable pub with_records : Table → List (List (List ℕ)) → Result Table TableFault
with_records table [] = Ok table
with_records table (fields ∷ records) =
    with_record table fields >>= λ next. with_records next records

-- a header and rows
unfoldable pub under_header : List (List (List ℕ)) → Result Table TableFault
under_header [] = Err faults.Header
under_header (fields ∷ records) =
    if is_header fields then with_records no_rows records else Err faults.Header

-- the table that the bytes spell, or its first fault
abbrev pub table_of : List ℕ → Result Table TableFault
table_of bytes = under_header (records_of bytes)

-- the junctions and the streets of a town
abbrev pub table_in : Town → Table
table_in town = record { junctions = town.junctions; streets = town.streets }

-- the bytes are the table of the town
abbrev pub IsTable : List ℕ → Town → Type 0
IsTable bytes town = table_of bytes ≡ Ok (table_in town)

-- what the reader answers is what the bytes spell
abbrev pub Reads : Result Town TableFault → Result Table TableFault → Type 0
Reads (Ok town) read = read ≡ Ok (table_in town)
Reads (Err fault) read = Fails fault read
