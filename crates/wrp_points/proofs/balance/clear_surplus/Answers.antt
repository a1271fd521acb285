use Rattle.wrp_points.proofs.Surplus.{touched_or_none}
use Rattle.wrp_points.proofs.balance.clear_surplus.Goals as goal

pub loop-pair-init : goal.loop-pair-init
loop-pair-init c = touched_or_none c.args.town.now c.args.numbers.now c.args.surplus.now c.requires.full
