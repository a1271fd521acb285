-- A table that grows by rows.
use Rattle.std.specs.Prelude.{◌≡◌, ◌≤◌, length}
use Rattle.wrp_town.specs.Limits.{street_limit, junction_limit, demand_limit}
use Rattle.wrp_town.specs.Streets.{demands_from}
use Rattle.wrp_street.specs.declared.reader.TableReader.{TableReader}
use Rattle.wrp_street.specs.Tables.{Table}

-- the rows of the reader so far
abbrev pub rows_in : TableReader → Table
rows_in reader = record { junctions = reader.junctions; streets = reader.streets }

-- within the limits of a town, with its demands counted
pub record IsGrowing (reader : TableReader) : Type 0 where
  pub few_streets : length reader.streets ≤ street_limit
  pub few_junctions : length reader.junctions ≤ junction_limit
  pub few_demands : length (demands_from 0 reader.streets) ≤ demand_limit
  pub counted : reader.demands ≡ length (demands_from 0 reader.streets)
