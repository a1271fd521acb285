use Rattle.wrp_report.specs.Grid.{grid_of}
use Rattle.wrp_postman.proofs.Texts.{answers_demo, demo_line}
use Rattle.wrp_postman.proofs.run.run_demo.Goals as goal

pub returns-in-Ok-clause-answer : goal.returns-in-Ok-clause-answer
returns-in-Ok-clause-answer g c =
    answers_demo (grid_of c.args.seed c.args.width c.args.height) c.args.budget c.in-Ok.summary _ _ c.put_summary.result c.in-Ok.ensures c.put_summary.ensures

pub returns-in-Ok-clause-line : goal.returns-in-Ok-clause-line
returns-in-Ok-clause-line g c =
    demo_line (grid_of c.args.seed c.args.width c.args.height) c.args.budget c.in-Ok.summary _ _ c.put_summary.result c.in-Ok.ensures c.put_summary.ensures
