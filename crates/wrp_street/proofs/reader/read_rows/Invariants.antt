-- What is left, added to what is done, gives the whole.
use Rattle.std.proofs.Common.{◌≡◌, length}
use Rattle.wrp_street.specs.Growing.{rows_in, IsGrowing}
use Rattle.wrp_street.specs.Tables.{no_rows, with_records}
use Rattle.wrp_street.proofs.reader.read_rows.Given as goal

abbrev pub invariant-loop-line : goal.invariant-loop-line
invariant-loop-line l = record {
  whole : with_records (rows_in l.table) l.records ≡ with_records no_rows l.fn.records;
  growing : IsGrowing l.table;
}

abbrev pub decreases-loop-line : goal.decreases-loop-line
decreases-loop-line l = length l.records
