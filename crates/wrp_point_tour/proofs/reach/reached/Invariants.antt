use Rattle.std.proofs.Common.{◌+◌, length}
use Rattle.wrp_point_tour.specs.Search.{IsSearch, unmarked}
use Rattle.wrp_point_tour.proofs.reach.reached.Given as goal

-- the search has come so far
abbrev pub invariant-loop-j : goal.invariant-loop-j
invariant-loop-j l = IsSearch l.graph l.counts l.base l.found.marks.items l.found.stack.items

-- each junction is put on the stack once
abbrev pub decreases-loop-j : goal.decreases-loop-j
decreases-loop-j l = unmarked l.found.marks.items + length l.found.stack.items
