-- One row of a street table: a street between two named junctions, or the first fault from the
-- left.
use Rattle.std.specs.Prelude.{ℕ, zero, suc, if◌then◌else◌, ◌==◌, codes, List, [], length, Option, None, Some, Result, Ok, Err}
use Rattle.std.specs.List.{slice_index_or}
use Rattle.std.specs.Str.{bytes_eq}
use Rattle.wrp_records.specs.Fields.{trimmed}
use Rattle.wrp_town.specs.Names.{is_name}
use Rattle.wrp_town.specs.declared.street.Need.{Need}
use Rattle.wrp_town.specs.declared.street.Need.TheVariants.{No, Either, Forward, Backward, Both}
use Rattle.wrp_street.specs.declared.table.TableFault.{TableFault}
use Rattle.wrp_street.specs.declared.table.TableFault.TheVariants as faults
use Rattle.wrp_street.specs.declared.row.Row.{Row}
use Rattle.wrp_street.specs.Costs.{cost_of}
use Rattle.wrp_street.specs.Faults.{◌>>=◌}

-- the field of this number, counted from 1, or no bytes
abbrev pub field_at : List (List ℕ) → ℕ → List ℕ
field_at fields zero = []
field_at fields (suc i) = slice_index_or fields i []

-- the name in a field
abbrev pub name_in : ℕ → ℕ → List ℕ → Result (List ℕ) TableFault
name_in row field text =
    if is_name (trimmed text) then Ok (trimmed text) else Err (faults.Name row field)

-- what was found, or else a fault
abbrev pub found_or : {A : Type 0} → TableFault → Option A → Result A TableFault
found_or fault None = Err fault
found_or fault (Some found) = Ok found

-- the cost in a field, None where the direction is illegal
abbrev pub cost_in : ℕ → ℕ → List ℕ → Result (Option ℕ) TableFault
cost_in row field text = found_or (faults.Cost row field) (cost_of text)

-- the need that a text names
abbrev pub need_of : List ℕ → Option Need
need_of text =
    if bytes_eq text (codes "yes") then Some Either
    else if bytes_eq text (codes "no") then Some No
    else if bytes_eq text (codes "1") then Some Either
    else if bytes_eq text (codes "0") then Some No
    else if bytes_eq text (codes "forward") then Some Forward
    else if bytes_eq text (codes "backward") then Some Backward
    else if bytes_eq text (codes "both") then Some Both
    else None

-- the need in a field
abbrev pub need_in : ℕ → List ℕ → Result Need TableFault
need_in row text = found_or (faults.Need row) (need_of (trimmed text))

-- six fields: three names, two costs and a need
unfoldable pub six_of : ℕ → List (List ℕ) → Result Row TableFault
six_of row fields = do
  street ← name_in row 1 (field_at fields 1)
  from ← name_in row 2 (field_at fields 2)
  to ← name_in row 3 (field_at fields 3)
  forward ← cost_in row 4 (field_at fields 4)
  backward ← cost_in row 5 (field_at fields 5)
  need ← need_in row (field_at fields 6)
  Ok (record {
    street = street;
    from = from;
    to = to;
    forward = forward;
    backward = backward;
    need = need;
  })

-- what a row of this number says
unfoldable pub row_of : ℕ → List (List ℕ) → Result Row TableFault
row_of row fields = if length fields == 6 then six_of row fields else Err (faults.Fields row)
