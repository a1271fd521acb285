use Rattle.std.proofs.Common.{IfSome, true}
use Rattle.wrp_tableau.specs.Kept.{system}
use Rattle.wrp_simplex.specs.Candidates.{IsSized, IsBest, IsRightColumn, right_column}
use Rattle.wrp_simplex.proofs.entering.entering_column.Given as goal

abbrev pub invariant-loop-column : goal.invariant-loop-column
invariant-loop-column l = record {
  sized : IfSome l.best IsSized;
  best : IsBest true (IsRightColumn (system l.tableau) l.row l.column-items) (right_column (system l.tableau) l.row l.column-items) l.column-index l.best;
}
