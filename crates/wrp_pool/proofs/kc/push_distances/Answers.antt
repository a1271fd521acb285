use Rattle.wrp_pool.specs.Chains.{distance_at}
use Rattle.wrp_pool.proofs.Distances.{distances_more}
use Rattle.wrp_pool.proofs.kc.push_distances.Goals as goal

pub loop-arc-preserved : goal.loop-arc-preserved
loop-arc-preserved c =
    distances_more c.args.town.now (distance_at c.args.town.now c.args.last c.args.of.now) c.loop-arc.arc c.args.terms.now.items c.loop-arc.terms.items _ c.loop-arc.invariant c.in_ok-push_distance.ensures
