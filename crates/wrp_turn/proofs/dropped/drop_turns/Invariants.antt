use Rattle.std.proofs.Common.{◌≡◌, take}
use Rattle.wrp_turn.specs.TurnTowns.{drop_turns}
use Rattle.wrp_turn.proofs.dropped.drop_turns.Given as goal

-- what is left of the steps so far
abbrev pub invariant-loop-step : goal.invariant-loop-step
invariant-loop-step l = l.steps ≡ drop_turns l.arcs (take l.step-index l.expanded)
