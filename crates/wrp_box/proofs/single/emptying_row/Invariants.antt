use Rattle.std.proofs.Common.{ℕ, ◌<◌, pos, ◌≤ℤ◌}
use Rattle.wrp_rules.specs.Nodes.{Node, Standing, empty_value}
use Rattle.wrp_rows.specs.Pools.{HasRowsOf}
use Rattle.wrp_rows.specs.Points.{AreBoundsOf}
use Rattle.wrp_box.specs.Points.{alone}
use Rattle.wrp_box.proofs.single.emptying_row.Given as goal

abbrev pub invariant-loop-row : goal.invariant-loop-row
invariant-loop-row l =
    (s : Standing) (node : Node) (i : ℕ) → HasRowsOf s l.rows → AreBoundsOf l.rows.town node l.bounds → i < l.row
    → empty_value l.rows.town s.rows node (alone i) ≤ℤ pos 0
