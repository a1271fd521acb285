use Rattle.wrp_reach.proofs.Ways.{out_of-legal}
use Rattle.wrp_reach.proofs.search.Search.enter.Goals as goal

pub push_heads-requires : goal.push_heads-requires
push_heads-requires c = rw (c.out_of.ensures, c.town.ensures) (out_of-legal c.args.graph.now c.args.j)
