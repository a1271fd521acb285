use Rattle.wrp_laws.proofs.Thinning.{each_arc_at_most}
use Rattle.wrp_laws.proofs.each_arc_as_often_as_demands.Goals as goal

pub returns : goal.returns
returns c = each_arc_at_most
