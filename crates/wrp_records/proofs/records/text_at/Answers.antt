-- What csv's `get` ensures, as the place of a list.
use Rattle.std.proofs.Common.{sym}
use Rattle.csv.specs.Records.{fields_of}
use Rattle.wrp_records.proofs.FieldAt.{slice_index_or-here, slice_index_or-missing}
use Rattle.wrp_records.proofs.records.text_at.Goals as goal

pub returns-in-Some : goal.returns-in-Some
returns-in-Some c =
    sym (slice_index_or-here (fields_of c.args.line.now) c.args.index c.in-Some.text.now (sym c.in-Some.ensures.value))

pub returns-in-None : goal.returns-in-None
returns-in-None c = sym (slice_index_or-missing (fields_of c.args.line.now) c.args.index (sym c.in-None.ensures.value))
