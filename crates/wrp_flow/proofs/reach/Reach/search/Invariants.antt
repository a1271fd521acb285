use Rattle.std.proofs.Common.{◌<◌, ◌≤◌, ◌+◌, ◌-◌, ℕ, length, get_or}
use Rattle.wrp_flow.specs.Searches.{IsSearch, IsDone, unmarked}
use Rattle.wrp_flow.proofs.reach.Reach.search.Given as goal

-- the nodes of the queue so far are done
abbrev pub invariant-loop-at : goal.invariant-loop-at
invariant-loop-at l = record {
  search : IsSearch l.net l.room l.from l.self.marks.items l.self.queue.items;
  within : l.at ≤ length l.self.queue.items;
  done : (k : ℕ) → k < l.at → IsDone l.net l.room l.self.marks.items (get_or l.self.queue.items k 0);
}

-- each node stands in the queue once
abbrev pub decreases-loop-at : goal.decreases-loop-at
decreases-loop-at l = unmarked l.self.marks.items + length l.self.queue.items - l.at
