use Rattle.wrp_report.specs.Grid.{plans_at}
use Rattle.wrp_report.proofs.Grids.{pieces_more}
use Rattle.wrp_report.proofs.grid.push_row.Goals as goal

pub loop-x-preserved : goal.loop-x-preserved
loop-x-preserved c = pieces_more (plans_at c.args.width c.args.height c.args.y) c.loop-x.x c.args.plans.now.items c.loop-x.plans.items c.push_at.new.plans.items c.loop-x.invariant c.in_ok-push_at.ensures
