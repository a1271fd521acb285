use Rattle.std.proofs.Common.{IfSome}
use Rattle.wrp_tableau.specs.Kept.{system}
use Rattle.wrp_simplex.specs.Steps.{IsBroken}
use Rattle.wrp_simplex.specs.Candidates.{IsSized, row_candidate, IsBest}
use Rattle.wrp_simplex.proofs.leaving.leaving_row.Given as goal

abbrev pub invariant-loop-row : goal.invariant-loop-row
invariant-loop-row l = record {
  sized : IfSome l.best IsSized;
  best : IsBest l.by_value (IsBroken (system l.tableau)) (row_candidate (system l.tableau)) l.row l.best;
}
