use Rattle.std.proofs.Common.{ap, sym, ◌∙◌}
use Rattle.std.specs.Prelude.{is_some}
use Rattle.wrp_turn.proofs.TurnStreets.{seconds_at, streets_with, streets_without}
use Rattle.wrp_turn.proofs.streets.Places.push_turns.Goals as goal
use Rattle.wrp_turn.proofs.streets.Places.push_turns.Goals.{then-is_some+in_ok-seconds+in_ok-push_turns_from, else-is_some}

pub push_turns_from-requires-clause-seconds : goal.push_turns_from-requires-clause-seconds
push_turns_from-requires-clause-seconds c =
    seconds_at c.args.turns.now.graph.now c.args.turns.now.bans.now c.loop-first.first c.as_slice.result.now (c.as_slice.ensures.value ∙ c.in_ok-seconds.ensures)

pub loop-first-preserved : goal.loop-first-preserved
loop-first-preserved c =
    let town = c.args.self.now.town.now in
    let bans = c.args.turns.now.bans.now in
    let legal = sym (c.is_some.ensures ∙ ap is_some c.cost.ensures.value) in
    elim c.if-is_some.branch [
      | then-is_some+in_ok-seconds+in_ok-push_turns_from w ↦ streets_with town c.args.turns.now.graph.now bans c.loop-first.first c.args.streets.now c.loop-first.streets c.if-is_some.streets w.as_slice.result.now (legal ∙ w.if-is_some.true) c.requires (w.as_slice.ensures.value ∙ w.in_ok-seconds.ensures) c.loop-first.invariant (w.streets-is ∙ w.in_ok-push_turns_from.ensures)
      | else-is_some w ↦ streets_without town bans c.loop-first.first c.args.streets.now c.loop-first.streets c.if-is_some.streets (legal ∙ w.if-is_some.false) c.loop-first.invariant w.streets-is
    ]
