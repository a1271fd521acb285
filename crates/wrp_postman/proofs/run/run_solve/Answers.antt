use Rattle.std.proofs.Common.{inr}
use Rattle.wrp_postman.proofs.run.run_solve.Goals as goal

pub returns-in-Ok-texts_of-clause-answer : goal.returns-in-Ok-texts_of-clause-answer
returns-in-Ok-texts_of-clause-answer g c =
    inr (c.in-Ok.town, c.in-Ok.ensures.town, c.put_texts.ensures c.in-Ok.town c.args.budget c.in-Ok-texts_of.ensures)
