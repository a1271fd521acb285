-- The laws are the lemmas.
use Rattle.wrp_street.proofs.Spelling.{table_has_records, table_is_town}
use Rattle.wrp_street.proofs.laws.table_laws.Goals as goal

pub returns : goal.returns
returns c = record { town = table_is_town; records = table_has_records }
