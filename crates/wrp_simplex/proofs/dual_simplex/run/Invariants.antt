use Rattle.std.proofs.Common.{◌≡◌, ◌≤◌, ◌-◌, length}
use Rattle.wrp_tableau.specs.Kept.{system}
use Rattle.wrp_simplex.specs.Runs.{IsRunFrom}
use Rattle.wrp_simplex.proofs.dual_simplex.run.Given as goal

abbrev pub invariant-loop-steps : goal.invariant-loop-steps
invariant-loop-steps l = record {
  run : IsRunFrom (system l.initial.tableau) l.taken.items (system l.tableau);
  count : l.steps ≡ length l.taken.items;
  rows : l.rows ≡ length l.tableau.rows;
  within : l.steps ≤ l.limit;
}

abbrev pub decreases-loop-steps : goal.decreases-loop-steps
decreases-loop-steps l = l.limit - l.steps
