use Rattle.std.proofs.Common.{take}
use Rattle.wrp_point_tour.specs.Search.{IsVisit, heads_of_used}
use Rattle.wrp_point_tour.proofs.reach.Search.visit.Given as goal

-- the heads of the arcs so far are met
abbrev pub invariant-loop-arc : goal.invariant-loop-arc
invariant-loop-arc l = IsVisit (heads_of_used l.town l.counts (take l.arc-index l.arcs)) l.initial.self.marks.items l.initial.self.stack.items l.self.marks.items l.self.stack.items
