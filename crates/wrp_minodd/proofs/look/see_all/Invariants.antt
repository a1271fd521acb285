use Rattle.std.proofs.Common.{take}
use Rattle.wrp_minodd.specs.Looks.{HasSeen}
use Rattle.wrp_minodd.proofs.look.see_all.Given as goal

-- what the pairs so far have shown
abbrev pub invariant-loop-t : goal.invariant-loop-t
invariant-loop-t l = HasSeen l.town l.point l.map l.s (take l.t-index l.others) l.seen
