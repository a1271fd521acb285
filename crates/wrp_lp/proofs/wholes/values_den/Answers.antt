use Rattle.wrp_tableau.specs.Kept.{system}
use Rattle.wrp_lp.proofs.Denominators.{values_start}
use Rattle.wrp_lp.proofs.wholes.values_den.Goals as goal

pub loop-r-init : goal.loop-r-init
loop-r-init c = values_start (system c.args.tableau.now)
