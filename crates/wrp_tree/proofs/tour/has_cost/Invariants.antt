use Rattle.std.proofs.Common.{◌≡◌, ◌==◌, drop}
use Rattle.wrp_town.specs.Walks.{walk_cost}
use Rattle.wrp_tree.proofs.tour.has_cost.Given as goal

-- the steps that come cost what is left of the cost just where all of them have it
abbrev pub invariant-loop-step : goal.invariant-loop-step
invariant-loop-step l = (walk_cost l.town (drop l.step-index l.steps) == l.rest) ≡ (walk_cost l.town l.steps == l.cost)
