use Rattle.wrp_report.specs.Grid.{grid_of}
use Rattle.wrp_postman.proofs.Texts.{writes_table}
use Rattle.wrp_postman.proofs.run.run_town.Goals as goal

pub returns-in-Ok-clause-answer : goal.returns-in-Ok-clause-answer
returns-in-Ok-clause-answer g c =
    writes_table (grid_of c.args.seed c.args.width c.args.height) c.in-Ok.text.items c.deref.result.now c.put_text.result _ _ c.deref.ensures.value c.in-Ok.ensures c.put_text.ensures
