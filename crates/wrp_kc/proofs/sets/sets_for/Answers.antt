use Rattle.wrp_graph.proofs.Sorting.{sums_more}
use Rattle.wrp_kc.specs.Candidates.{set_at}
use Rattle.wrp_kc.proofs.sets.sets_for.Goals as goal

pub loop-j-preserved : goal.loop-j-preserved
loop-j-preserved c = sums_more (set_at c.args.parts.now.count c.args.parts.now.of c.args.own c.args.u) c.loop-j.j c.set_at.result c.loop-j.of c.push.new.self c.loop-j.invariant c.set_at.ensures c.in_ok-push.ensures.ok
