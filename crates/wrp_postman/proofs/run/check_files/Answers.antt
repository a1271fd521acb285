use Rattle.std.proofs.Common.{inr}
use Rattle.wrp_postman.proofs.run.check_files.Goals as goal

pub returns-in-Ok-clause-found : goal.returns-in-Ok-clause-found
returns-in-Ok-clause-found g c = inr (c.in-Ok.town, c.in-Ok.ensures.town, c.check_proof.ensures.ends)

pub returns-in-Ok-clause-behind : goal.returns-in-Ok-clause-behind
returns-in-Ok-clause-behind g c = inr (c.in-Ok.town, c.in-Ok.ensures.town)
