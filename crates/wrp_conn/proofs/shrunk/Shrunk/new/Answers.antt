use Rattle.std.proofs.Common.{◌*◌, ℕ, List, length, sym, subst}
use Rattle.wrp_odd.specs.Points.{numbers_of}
use Rattle.wrp_conn.specs.Shrunk.{AreInside, LeavesAsAt}
use Rattle.wrp_conn.proofs.Nodes.{nodes_inside, sets_uncrossed}
use Rattle.wrp_conn.proofs.shrunk.Shrunk.new.Goals as goal

pub net_of-requires-clause-nodes : goal.net_of-requires-clause-nodes
net_of-requires-clause-nodes c =
    subst (AreInside c.args.town.now) (sym c.as_slice.ensures.value)
    (nodes_inside c.args.town.now c.args.parts.now.count c.args.parts.now.of c.args.streets.now c.requires.parts c.requires.streets c.in_ok-nodes.nodes.items c.in_ok-nodes.ensures)

pub returns-clause-shrunk : goal.returns-clause-shrunk
returns-clause-shrunk c = record {
  nodes = nodes_inside c.args.town.now c.args.parts.now.count c.args.parts.now.of c.args.streets.now c.requires.parts c.requires.streets c.in_ok-nodes.nodes.items c.in_ok-nodes.ensures;
  uncrossed = sets_uncrossed c.args.town.now c.args.parts.now.count c.args.parts.now.of c.args.streets.now c.requires.parts c.requires.streets c.in_ok-nodes.nodes.items c.in_ok-nodes.ensures;
  net = c.in_ok-net.ensures.net;
  count = c.in_ok-net.ensures.nodes;
  leaves = subst (λ (xs : List ℕ). LeavesAsAt c.args.town.now xs (numbers_of c.args.point.now) (2 * length c.args.town.now.streets) c.in_ok-net.net) c.as_slice.ensures.value c.in_ok-net.ensures.leaves;
}
