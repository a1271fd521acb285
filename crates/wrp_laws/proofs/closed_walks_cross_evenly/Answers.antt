use Rattle.wrp_laws.proofs.Crossings.{outs_are_ins, overs_are_even}
use Rattle.wrp_laws.proofs.closed_walks_cross_evenly.Goals as goal

pub returns : goal.returns
returns c = record { leaves = outs_are_ins; crosses = overs_are_even }
