use Rattle.std.proofs.Common.{[]}
use Rattle.wrp_report.specs.Grid.{plans_in}
use Rattle.wrp_report.proofs.Grids.{pieces_more}
use Rattle.wrp_report.proofs.grid.plans_of.Goals as goal

pub loop-y-preserved : goal.loop-y-preserved
loop-y-preserved c = pieces_more (plans_in c.args.width c.args.height) c.loop-y.y [] c.loop-y.plans.items c.push_row.new.plans.items c.loop-y.invariant c.in_ok-push_row.ensures
