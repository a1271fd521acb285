use Rattle.wrp_reach.specs.Search.{work_left}
use Rattle.wrp_reach.proofs.Roots.{IsGoing}
use Rattle.wrp_reach.proofs.search.Search.reach_from.Given as goal

-- the search goes on from the root
abbrev pub invariant-loop : goal.invariant-loop
invariant-loop l = IsGoing l.graph l.initial.self l.self

abbrev pub decreases-loop : goal.decreases-loop
decreases-loop l = work_left l.graph l.self
