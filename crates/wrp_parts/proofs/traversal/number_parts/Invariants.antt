use Rattle.wrp_parts.specs.Traversal.{AreNumbered}
use Rattle.wrp_parts.proofs.traversal.number_parts.Given as goal

-- the junctions so far have their parts
abbrev pub invariant-loop-root : goal.invariant-loop-root
invariant-loop-root l = AreNumbered l.rows l.count l.root l.of
