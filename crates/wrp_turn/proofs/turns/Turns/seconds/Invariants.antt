use Rattle.std.proofs.Common.{◌≡◌, not, take}
use Rattle.std.specs.List.{filter}
use Rattle.wrp_turn.specs.Turns.{is_banned}
use Rattle.wrp_turn.proofs.turns.Turns.seconds.Given as goal

-- those of the arcs so far that aren't banned
abbrev pub invariant-loop-second : goal.invariant-loop-second
invariant-loop-second l =
    l.seconds.items ≡ filter (λ second. not (is_banned l.self.bans.now l.first second)) (take l.second-index l.second-items)
