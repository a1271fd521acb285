use Rattle.std.proofs.Common.{take}
use Rattle.wrp_parts.specs.Traversal.{IsVisit}
use Rattle.wrp_parts.proofs.traversal.visit.Given as goal

-- the junctions so far are visited
abbrev pub invariant-loop-j : goal.invariant-loop-j
invariant-loop-j l = IsVisit (take l.j-index l.junctions) l.part l.initial.of l.initial.stack.items l.of l.stack.items
