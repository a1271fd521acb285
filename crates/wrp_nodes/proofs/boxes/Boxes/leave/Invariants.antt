use Rattle.std.proofs.Common.{◌≡◌, ◌<◌, length}
use Rattle.wrp_nodes.specs.Tables.{whole_range, AreCutAbove}
use Rattle.wrp_nodes.proofs.boxes.Boxes.leave.Given as goal

abbrev pub invariant-loop-at : goal.invariant-loop-at
invariant-loop-at l = record {
  long : length l.self.ranges ≡ length l.fn.self.ranges;
  most : l.self.most ≡ l.fn.self.most;
  whole : l.whole ≡ whole_range l.fn.self;
  there : l.at < length l.nodes;
  cut : AreCutAbove l.nodes l.fn.node l.fn.self → AreCutAbove l.nodes l.at l.self;
}

abbrev pub decreases-loop-at : goal.decreases-loop-at
decreases-loop-at l = l.at
