use Rattle.wrp_report.specs.Grid.{grid_of}
use Rattle.wrp_postman.proofs.Texts.{summary_found}
use Rattle.wrp_postman.proofs.run.drawn_summary.Goals as goal

pub returns : goal.returns
returns c = summary_found (grid_of c.args.seed c.args.width c.args.height) c.args.budget c.in_ok-town.town c.summary_of.result c.in_ok-town.ensures c.summary_of.ensures
