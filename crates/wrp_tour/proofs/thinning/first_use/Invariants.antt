use Rattle.std.proofs.Common.{◌≡◌, take}
use Rattle.wrp_town.specs.Walks.{count_of}
use Rattle.wrp_tour.proofs.thinning.first_use.Given as goal

-- no step so far drives the arc
abbrev pub invariant-loop-at : goal.invariant-loop-at
invariant-loop-at l = count_of (take l.at l.steps) l.arc ≡ 0
