use Rattle.std.proofs.Common.{◌≡◌, take, map, All}
use Rattle.wrp_rows.specs.Pools.{sparse_at}
use Rattle.wrp_tableau.specs.Starts.{IsLine}
use Rattle.wrp_lp.specs.Relaxed.{width, row_line}
use Rattle.wrp_lp.proofs.lines.lines_of.Given as goal

abbrev pub invariant-loop-row : goal.invariant-loop-row
invariant-loop-row l = record {
  lines : l.lines.items ≡ map (λ i. row_line l.rows.town (sparse_at l.rows.rows i)) (take l.row-index l.chosen);
  fit : All (IsLine (width l.rows.town)) l.lines.items;
}
