use Rattle.std.proofs.Common.{take}
use Rattle.wrp_rows.specs.Marks.{AreMarks}
use Rattle.wrp_conn.proofs.side.mark.Given as goal

-- the nodes so far are marked
abbrev pub invariant-loop-node : goal.invariant-loop-node
invariant-loop-node l = AreMarks (take l.node-index l.nodes) l.marks
