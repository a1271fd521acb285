use Rattle.std.proofs.Common.{◌<◌, length}
use Rattle.wrp_tree.proofs.Boxing.{IsOnTheWay}
use Rattle.wrp_tree.proofs.boxes.put_box.Given as goal

abbrev pub invariant-loop-at : goal.invariant-loop-at
invariant-loop-at l = record {
  there : l.at < length l.nodes;
  way : IsOnTheWay l.town l.nodes l.node l.at l.into;
}

abbrev pub decreases-loop-at : goal.decreases-loop-at
decreases-loop-at l = l.at
