use Rattle.wrp_rows.proofs.RowLaws.{row_there, as_many, rows_stay}
use Rattle.wrp_rows.proofs.laws.rows_laws.Goals as goal

pub returns : goal.returns
returns c = record { row = row_there; count = as_many; others = rows_stay }
