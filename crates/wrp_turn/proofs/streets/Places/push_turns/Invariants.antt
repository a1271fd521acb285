use Rattle.std.proofs.Common.{◌≡◌, ◌++◌, map}
use Rattle.wrp_turn.specs.TurnTowns.{turn_street}
use Rattle.wrp_turn.proofs.BanRows.{turns_below}
use Rattle.wrp_turn.proofs.streets.Places.push_turns.Given as goal

-- the streets of the turns from the arcs so far are added
abbrev pub invariant-loop-first : goal.invariant-loop-first
invariant-loop-first l =
    l.streets ≡ l.initial.streets ++ map (turn_street l.self.town.now) (turns_below l.self.town.now l.turns.bans.now l.first)
