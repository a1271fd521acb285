use Rattle.std.proofs.Common.{length}
use Rattle.wrp_odd.specs.Merging.{AreParents}
use Rattle.wrp_odd.proofs.candidates.join_streets.Given as goal

abbrev pub invariant-loop-street : goal.invariant-loop-street
invariant-loop-street l = AreParents (length l.town.junctions) l.merged.parents.items
