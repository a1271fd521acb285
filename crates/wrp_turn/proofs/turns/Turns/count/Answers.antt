use Rattle.std.proofs.Common.{ap, sym, ◌∙◌, arith}
use Rattle.std.specs.Prelude.{is_some}
use Rattle.wrp_turn.proofs.BanRows.{counted_with, counted_without}
use Rattle.wrp_turn.proofs.turns.Turns.count.Goals as goal
use Rattle.wrp_turn.proofs.turns.Turns.count.Goals.{then-is_some+in_ok-seconds, else-is_some}

pub loop-first-preserved : goal.loop-first-preserved
loop-first-preserved c =
    let town = c.args.self.now.graph.now in
    let same = c.town-town.result.now in
    let bans = c.args.self.now.bans.now in
    let legal = sym (c.is_some.ensures ∙ ap is_some c.cost.ensures.value) in
    elim c.if-is_some.branch [
      | then-is_some+in_ok-seconds w ↦ counted_with town same bans c.loop-first.first c.loop-first.count c.if-is_some.count w.in_ok-seconds.field-0.items c.town-town.ensures (legal ∙ w.if-is_some.true) w.in_ok-seconds.ensures c.loop-first.invariant (omega arith)
      | else-is_some w ↦ counted_without town same bans c.loop-first.first c.loop-first.count c.if-is_some.count c.town-town.ensures (legal ∙ w.if-is_some.false) c.loop-first.invariant w.count-is
    ]
