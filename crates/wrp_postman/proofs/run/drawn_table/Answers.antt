use Rattle.wrp_report.specs.Grid.{grid_of}
use Rattle.wrp_postman.proofs.Texts.{canonical_found}
use Rattle.wrp_postman.proofs.run.drawn_table.Goals as goal

pub returns : goal.returns
returns c = canonical_found (grid_of c.args.seed c.args.width c.args.height) c.in_ok-town.town c.canonical.result c.in_ok-town.ensures c.canonical.ensures.text
