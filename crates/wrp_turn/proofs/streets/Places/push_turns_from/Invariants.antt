use Rattle.std.proofs.Common.{◌≡◌, ◌++◌, map, take}
use Rattle.wrp_turn.specs.TurnTowns.{turn_street}
use Rattle.wrp_turn.proofs.streets.Places.push_turns_from.Given as goal

-- the streets of the turns so far are added
abbrev pub invariant-loop-second : goal.invariant-loop-second
invariant-loop-second l =
    l.streets ≡ l.initial.streets ++ map (λ second. turn_street l.self.town.now (l.first, second)) (take l.second-index l.seconds)
