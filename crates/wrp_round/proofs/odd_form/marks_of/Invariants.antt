use Rattle.std.proofs.Common.{◌≡◌, length, take}
use Rattle.wrp_rows.specs.Marks.{AreMarks}
use Rattle.wrp_round.proofs.odd_form.marks_of.Given as goal

-- the junctions so far are marked
abbrev pub invariant-loop-junction : goal.invariant-loop-junction
invariant-loop-junction l = record {
  marks : AreMarks (take l.junction-index l.set) l.marks.items;
  long : length l.marks.items ≡ l.count;
}
