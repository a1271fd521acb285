use Rattle.wrp_odd.proofs.Components.{AreLabelsTo}
use Rattle.wrp_odd.proofs.merging.Merged.labels.Given as goal

-- the labels so far
abbrev pub invariant-loop-j : goal.invariant-loop-j
invariant-loop-j l = AreLabelsTo l.self.parents.items l.labels.items l.j
