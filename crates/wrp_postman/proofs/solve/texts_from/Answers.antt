use Rattle.std.proofs.Common.{refl}
use Rattle.wrp_postman.proofs.Solutions.{steps_legal, texts_told}
use Rattle.wrp_postman.proofs.solve.texts_from.Goals as goal

pub report-requires : goal.report-requires
report-requires c = steps_legal c.args.town.now c.args.records.now c.args.solved.now.answer c.requires

pub returns : goal.returns
returns c = λ budget. texts_told c.args.town.now budget c.args.records.now c.args.solved.now _ refl c.in_ok-proof.ensures c.in_ok-report.ensures
