use Rattle.std.proofs.Common.{◌≡◌, ◌||◌}
use Rattle.std.specs.List.{filter, range_with_len}
use Rattle.wrp_town.specs.Arcs.{is_legal}
use Rattle.wrp_turn.specs.TurnTowns.{is_unservable}
use Rattle.wrp_turn.proofs.arcs.arcs_of.Given as goal

-- the arcs so far that have a street
abbrev pub invariant-loop-arc : goal.invariant-loop-arc
invariant-loop-arc l = l.arcs ≡ filter (λ arc. is_legal l.town arc || is_unservable l.town arc) (range_with_len 0 l.arc)
