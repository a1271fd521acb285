use Rattle.std.proofs.Common.{◌≡◌, length, drop}
use Rattle.wrp_keep.specs.Reopens.{AreWritable, lines_in, read_after}
use Rattle.wrp_keep.proofs.reading.add_lines.Given as goal

abbrev pub invariant-loop-line : goal.invariant-loop-line
invariant-loop-line l = record {
  town : l.tree.town ≡ l.fn.tree.town;
  read : read_after l.fn.tree.town l.fn.tree.records (lines_in l.payload)
      ≡ read_after l.fn.tree.town l.tree.records (drop (length l.yielded) (lines_in l.payload));
  writable : AreWritable l.fn.tree.records → AreWritable l.tree.records;
}
