use Rattle.wrp_tableau.specs.Changes.{AreChanges}
use Rattle.wrp_tableau.proofs.change.changes_of.Given as goal

abbrev pub invariant-loop-k : goal.invariant-loop-k
invariant-loop-k l = AreChanges l.c l.r l.rows l.k l.changes.items
