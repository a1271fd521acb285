-- Each clause is a lemma of WeakDuality.
use Rattle.wrp_sums.proofs.WeakDuality.{weak_duality, whole_weak_duality, no_solution}
use Rattle.wrp_sums.proofs.duality_laws.Goals as goal

pub returns : goal.returns
returns c = record {
  scaled = weak_duality;
  whole = whole_weak_duality;
  none = no_solution;
}
