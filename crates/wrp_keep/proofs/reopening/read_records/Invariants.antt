use Rattle.std.proofs.Common.{◌≡◌}
use Rattle.std.specs.Prelude.{IfSome}
use Rattle.wrp_disk.specs.Disks.{Looks}
use Rattle.wrp_log.specs.Payloads.{list_of}
use Rattle.wrp_keep.specs.Reopens.{AreWritable, IsReplayedTo, read_after, lines_from}
use Rattle.wrp_keep.proofs.reopening.read_records.Given as goal

abbrev pub invariant-loop : goal.invariant-loop
invariant-loop g l = record {
  town : l.tree.town ≡ l.fn.tree.town;
  looks : Looks (g.D.Disk.meaning l.fn.disk) (g.D.Disk.meaning l.disk);
  ready : IsReplayedTo l.counter l.log (g.D.Disk.meaning l.disk);
  writable : AreWritable l.fn.tree.records → AreWritable l.tree.records;
  count : l.log.count ≡ l.fn.log.count;
  read : IfSome (g.D.Disk.meaning l.fn.disk).told (λ bytes.
      read_after l.fn.tree.town l.fn.tree.records (lines_from 1 (list_of bytes))
      ≡ read_after l.fn.tree.town l.tree.records (lines_from l.counter (list_of bytes)));
}
