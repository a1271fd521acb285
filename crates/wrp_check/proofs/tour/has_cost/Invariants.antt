use Rattle.std.proofs.Common.{◌≡◌, ◌==◌, length}
use Rattle.wrp_town.specs.Walks.{walk_cost}
use Rattle.wrp_check.proofs.tour.has_cost.Given as goal

-- the steps ahead cost what is left of the cost just where all of them have it
abbrev pub invariant-loop-step : goal.invariant-loop-step
invariant-loop-step l = (walk_cost l.town l.ahead == l.rest) ≡ (walk_cost l.town l.steps == l.cost)

abbrev pub decreases-loop-step : goal.decreases-loop-step
decreases-loop-step l = length l.ahead
