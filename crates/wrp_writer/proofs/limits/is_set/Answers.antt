use Rattle.wrp_writer.proofs.Ascending.{rises-start}
use Rattle.wrp_writer.proofs.limits.is_set.Goals as goal

pub loop-number-init : goal.loop-number-init
loop-number-init c = rises-start c.args.set.now
