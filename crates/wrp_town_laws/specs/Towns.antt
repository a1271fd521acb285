-- Streets between named junctions, which are numbered as the streets name them.
use Rattle.std.specs.Prelude.{◌≤◌, Bool, ◌&&◌, List, [], ◌∷◌, length}
use Rattle.wrp_town.specs.Limits.{junction_limit, street_limit, demand_limit}
use Rattle.wrp_town.specs.Names.{is_name}
use Rattle.wrp_town.specs.Streets.{IsTown, is_cost, demands_from}
use Rattle.wrp_street.specs.declared.row.Row.{Row}
use Rattle.wrp_street.specs.Tables.{Table, no_rows, with_row}

-- the table with these rows, one after another
abbrev pub with_rows : Table → List Row → Table
with_rows table [] = table
with_rows table (row ∷ rows) = with_rows (with_row table row) rows

-- the table of these rows alone
abbrev pub table_of_rows : List Row → Table
table_of_rows rows = with_rows no_rows rows

-- three names, and costs in range
abbrev pub is_row : Row → Bool
is_row row =
    is_name row.street && is_name row.from && is_name row.to
    && is_cost row.forward && is_cost row.backward

-- the limits of a town
pub record KeepsLimits (table : Table) : Type 0 where
  pub few_junctions : length table.junctions ≤ junction_limit
  pub few_streets : length table.streets ≤ street_limit
  pub few_demands : length (demands_from 0 table.streets) ≤ demand_limit

-- the junctions and the streets of the table are those of a town
abbrev pub IsTownTable : Table → Type 0
IsTownTable table = IsTown table.junctions table.streets
