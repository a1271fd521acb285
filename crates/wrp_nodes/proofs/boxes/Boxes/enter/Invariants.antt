use Rattle.std.proofs.Common.{◌≡◌, ◌<◌, length}
use Rattle.wrp_town.specs.declared.town.Town.{Town}
use Rattle.wrp_nodes.specs.Tables.{IsAtRest}
use Rattle.wrp_nodes.proofs.Entering.{IsOnTheWay}
use Rattle.wrp_nodes.proofs.boxes.Boxes.enter.Given as goal

abbrev pub invariant-loop-at : goal.invariant-loop-at
invariant-loop-at l = record {
  long : length l.self.ranges ≡ length l.fn.self.ranges;
  there : l.at < length l.nodes;
  way : (town : Town) → IsAtRest town l.fn.self → IsOnTheWay town l.nodes l.fn.node l.at l.self;
}

abbrev pub decreases-loop-at : goal.decreases-loop-at
decreases-loop-at l = l.at
