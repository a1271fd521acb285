use Rattle.std.proofs.Common.{◌≡◌, length, take}
use Rattle.wrp_town.specs.Arcs.{demands}
use Rattle.wrp_tour.proofs.Uses.{AreCounted}
use Rattle.wrp_tour.proofs.lean.uses_few.Given as goal

-- the steps so far are counted
abbrev pub invariant-loop-step : goal.invariant-loop-step
invariant-loop-step l = record {
  most : l.most ≡ length (demands l.town);
  counted : AreCounted l.town l.most (take l.step-index l.steps) l.counts.items;
}
