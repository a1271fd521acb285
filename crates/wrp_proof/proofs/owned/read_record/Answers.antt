use Rattle.wrp_proof.specs.Views.{record_of}
use Rattle.wrp_proof.proofs.LineLaws.{spelled-line}
use Rattle.wrp_proof.proofs.Narrow.{narrow-multipliers}
use Rattle.wrp_proof.proofs.owned.read_record.Goals as goal

pub record_from_view-requires : goal.record_from_view-requires
record_from_view-requires c = narrow-multipliers (record_of c.in-Ok.view) (spelled-line c.args.line.now (record_of c.in-Ok.view) c.in-Ok.ensures.spelled).numbers
