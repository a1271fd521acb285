use Rattle.std.proofs.Common.{refl}
use Rattle.wrp_postman.proofs.Solutions.{summary_told}
use Rattle.wrp_postman.proofs.demo.summary_of.Goals as goal

pub returns : goal.returns
returns c = summary_told c.args.town.now c.args.budget c.in_ok-solved.solved _ c.in_ok-solved.ensures refl c.in_ok-summary.ensures
