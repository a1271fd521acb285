use Rattle.wrp_flow.specs.Searches.{mark_at}
use Rattle.wrp_flow.proofs.Pushing.{IsPushing, place_in}
use Rattle.wrp_flow.proofs.push.push.Given as goal

-- the push has come from the sink to the node
abbrev pub invariant-loop-node : goal.invariant-loop-node
invariant-loop-node l = IsPushing l.net l.s l.t l.marks l.initial.room l.room l.most l.node

-- each node was reached from one that was reached before it
abbrev pub decreases-loop-node : goal.decreases-loop-node
decreases-loop-node l = place_in (mark_at l.marks l.node)
