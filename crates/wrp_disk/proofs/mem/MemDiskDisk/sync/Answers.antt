use Rattle.std.proofs.Common.{rules}
use Rattle.wrp_disk.specs.Memory.{meaning_of}
use Rattle.wrp_disk.proofs.Time.{looks_then_syncs}
use Rattle.wrp_disk.proofs.MemoryCalls.{syncs_at}
use Rattle.wrp_disk.proofs.mem.MemDiskDisk.sync.Goals as goal

pub returns-clause-syncs : goal.returns-clause-syncs
returns-clause-syncs c =
    looks_then_syncs (meaning_of c.args.self.now) (meaning_of c.count_call.new.self) _ c.count_call.ensures.looks
    (rw (← c.self.view_is) (syncs_at _ _ _ _ _ (c.keep.ensures.kept (search rules))))
