use Rattle.std.proofs.Common.{◌≡◌, map, take}
use Rattle.wrp_turn.specs.TurnTowns.{arc_street}
use Rattle.wrp_turn.proofs.streets.Places.arc_streets.Given as goal

-- the streets of the arcs so far
abbrev pub invariant-loop-arc : goal.invariant-loop-arc
invariant-loop-arc l = l.streets ≡ map (arc_street l.self.town.now) (take l.arc-index l.self.arcs.now)
