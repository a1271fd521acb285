use Rattle.std.proofs.Common.{◌≡◌, drop}
use Rattle.wrp_town.specs.Walks.{leads}
use Rattle.wrp_town.proofs.walk.leads.Given as goal

-- the steps that are left lead on from here just where all of them lead from the start
abbrev pub invariant-loop-step : goal.invariant-loop-step
invariant-loop-step l = leads l.town l.at (drop l.step-index l.steps) l.to ≡ leads l.fn.town l.fn.from l.fn.steps l.fn.to
