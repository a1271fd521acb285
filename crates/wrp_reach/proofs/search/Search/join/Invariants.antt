use Rattle.std.proofs.Common.{length}
use Rattle.wrp_reach.proofs.Steps.{IsJoining}
use Rattle.wrp_reach.proofs.search.Search.join.Given as goal

-- the groups that are gone start behind the place
abbrev pub invariant-loop-group : goal.invariant-loop-group
invariant-loop-group l = IsJoining l.place l.initial.self l.self

abbrev pub decreases-loop-group : goal.decreases-loop-group
decreases-loop-group l = length l.self.groups.items
