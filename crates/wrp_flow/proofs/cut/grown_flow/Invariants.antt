use Rattle.std.proofs.Common.{◌≡◌, ◌-◌, length}
use Rattle.wrp_flow.specs.Sides.{IsResidual}
use Rattle.wrp_flow.proofs.cut.grown_flow.Given as goal

-- the flow so far
abbrev pub invariant-loop-value : goal.invariant-loop-value
invariant-loop-value l = record {
  residual : IsResidual l.net l.s l.t l.value l.room.items;
  marks : length l.reach.marks.items ≡ l.net.nodes;
}

abbrev pub decreases-loop-value : goal.decreases-loop-value
decreases-loop-value l = l.limit - l.value
