use Rattle.wrp_flow.specs.Searches.{GoesOn}
use Rattle.wrp_flow.proofs.Stars.{IsPending, up_to}
use Rattle.wrp_flow.proofs.reach.Reach.visit.Given as goal

-- the search has gone on along the sides behind the next one
abbrev pub invariant-loop-next : goal.invariant-loop-next
invariant-loop-next l = record {
  more : GoesOn l.net l.room l.initial.self.marks.items l.initial.self.queue.items l.self.marks.items l.self.queue.items;
  pending : IsPending l.net l.room l.self.marks.items l.node l.next;
}

abbrev pub decreases-loop-next : goal.decreases-loop-next
decreases-loop-next l = up_to l.next
