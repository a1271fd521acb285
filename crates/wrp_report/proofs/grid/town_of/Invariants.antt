use Rattle.wrp_report.specs.Grid.{grid_of}
use Rattle.wrp_report.proofs.Drawn.{IsDrawing}
use Rattle.wrp_report.proofs.grid.town_of.Given as goal

-- the rows of the streets so far are drawn
abbrev pub invariant-loop-plan : goal.invariant-loop-plan
invariant-loop-plan l = IsDrawing (grid_of l.seed l.width l.height) l.plan-items l.plan-index l.rows l.draws.state
