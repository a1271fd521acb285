use Rattle.std.proofs.Common.{take}
use Rattle.wrp_reach.proofs.Steps.{IsMarking}
use Rattle.wrp_reach.proofs.search.mark_done.Given as goal

-- the junctions so far have the label, and no others have changed
abbrev pub invariant-loop-j : goal.invariant-loop-j
invariant-loop-j l = IsMarking l.label (take l.j-index l.junctions) l.initial.marks l.marks
