use Rattle.std.proofs.Common.{◌≡◌, length}
use Rattle.wrp_town.specs.Walks.{leads}
use Rattle.wrp_check.proofs.tour.lead.Given as goal

-- the steps ahead lead on from here just where all of them lead from the start
abbrev pub invariant-loop-step : goal.invariant-loop-step
invariant-loop-step l = leads l.town l.at l.ahead l.to ≡ leads l.town l.from l.steps l.to

abbrev pub decreases-loop-step : goal.decreases-loop-step
decreases-loop-step l = length l.ahead
