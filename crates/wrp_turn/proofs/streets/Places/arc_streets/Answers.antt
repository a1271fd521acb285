use Rattle.wrp_turn.proofs.TurnNames.{own_at}
use Rattle.wrp_turn.proofs.streets.Places.arc_streets.Goals as goal

pub arc_street-requires : goal.arc_street-requires
arc_street-requires c =
    let p = c.args.self.now in
    own_at p.town.now p.arcs.now c.loop-arc.arc-index 0 p.own c.loop-arc-test.true
