use Rattle.std.proofs.Common.{◌≤◌, length}
use Rattle.wrp_odd.specs.Merging.{AreParents}
use Rattle.wrp_odd.proofs.merging.Merged.root.Given as goal

abbrev pub invariant-loop-at : goal.invariant-loop-at
invariant-loop-at l = record {
  parents : AreParents (length l.fn.self.parents.items) l.self.parents.items;
  low : l.at ≤ l.j;
}

abbrev pub decreases-loop-at : goal.decreases-loop-at
decreases-loop-at l = l.at
