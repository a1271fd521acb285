use Rattle.std.proofs.Common.{take}
use Rattle.wrp_rows.specs.Marks.{AreMarks}
use Rattle.wrp_tree.proofs.apart.mark.Given as goal

-- the junctions so far are marked
abbrev pub invariant-loop-junction : goal.invariant-loop-junction
invariant-loop-junction l = AreMarks (take l.junction-index l.set) l.marks
