use Rattle.wrp_proof.proofs.LineLaws.{no-end_spelled}
use Rattle.wrp_proof.proofs.end.read_end.Goals as goal

pub returns-in-None-clause-none : goal.returns-in-None-clause-none
returns-in-None-clause-none c = λ short. no-end_spelled c.args.line.now c.in-None.ensures.none
