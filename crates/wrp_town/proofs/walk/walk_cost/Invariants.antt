use Rattle.std.proofs.Common.{◌≡◌, ◌*◌, ◌≤◌, true, take}
use Rattle.std.specs.List.{list_all}
use Rattle.wrp_town.specs.Limits.{cost_limit}
use Rattle.wrp_town.specs.Arcs.{is_legal, arc_of}
use Rattle.wrp_town.specs.Walks.{walk_cost}
use Rattle.wrp_town.proofs.walk.walk_cost.Given as goal

-- the steps so far are legal, and cost the total
abbrev pub invariant-loop-step : goal.invariant-loop-step
invariant-loop-step l = record {
  legal : list_all (λ step. is_legal l.town (arc_of step)) (take l.step-index l.steps) ≡ true;
  total : l.total ≡ walk_cost l.town (take l.step-index l.steps);
  small : l.total ≤ l.step-index * cost_limit;
}
