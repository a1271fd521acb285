use Rattle.std.proofs.Common.{arith}
use Rattle.wrp_tree.proofs.Boxing.{whole_from}
use Rattle.wrp_tree.proofs.boxes.widen.Goals as goal

pub returns : goal.returns
returns c =
    whole_from c.args.town.now c.loop-arc.into c.loop-arc.arc (omega arith) c.loop-arc.invariant.fit c.loop-arc.invariant.lo c.loop-arc.invariant.legal c.loop-arc.invariant.illegal
