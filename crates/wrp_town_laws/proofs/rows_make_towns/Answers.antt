use Rattle.wrp_town_laws.proofs.RowTowns.{town_of_rows, few_rows}
use Rattle.wrp_town_laws.proofs.rows_make_towns.Goals as goal

pub returns : goal.returns
returns c = record { rows = town_of_rows; few = few_rows }
