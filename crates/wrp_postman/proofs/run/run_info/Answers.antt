use Rattle.std.proofs.Common.{inr}
use Rattle.wrp_postman.proofs.Texts.{writes_info}
use Rattle.wrp_postman.proofs.run.run_info.Goals as goal

pub returns-in-Ok-info_of-clause-answer : goal.returns-in-Ok-info_of-clause-answer
returns-in-Ok-info_of-clause-answer g c =
    inr (c.in-Ok.town, c.in-Ok.ensures.town, writes_info c.in-Ok.town c.in-Ok-info_of.text.items c.deref.result.now c.put_text.result _ _ c.deref.ensures.value c.in-Ok-info_of.ensures c.put_text.ensures)
