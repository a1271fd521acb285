use Rattle.std.proofs.Common.{rules}
use Rattle.wrp_disk.proofs.Time.{looks_none, looks_fails}
use Rattle.wrp_disk.proofs.mem.MemDisk.tear.Goals as goal

pub returns-then-not-keep-clause-fails : goal.returns-then-not-keep-clause-fails
returns-then-not-keep-clause-fails c =
    let lost = c.keep.ensures.lost (search rules) in
    rw (← c.self.view_is, lost) (looks_fails _ _ _ _ (looks_none _))
