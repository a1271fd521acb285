use Rattle.std.proofs.Common.{◌≡◌, take}
use Rattle.std.specs.List.{flat_map}
use Rattle.wrp_turn.specs.TurnTowns.{arc_ends}
use Rattle.wrp_turn.proofs.streets.Places.junctions.Given as goal

-- the junctions of the arcs so far
abbrev pub invariant-loop-arc : goal.invariant-loop-arc
invariant-loop-arc l = l.junctions ≡ flat_map arc_ends (take l.arc-index l.self.arcs.now)
