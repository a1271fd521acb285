use Rattle.std.proofs.Common.{arith}
use Rattle.wrp_town.proofs.TownLaws.{few_streets}
use Rattle.wrp_turn.proofs.TurnNames.{own_at}
use Rattle.wrp_turn.proofs.streets.Places.junctions.Goals as goal

pub before_name-requires : goal.before_name-requires
before_name-requires c =
    let p = c.args.self.now in
    omega (arith, own_at p.town.now p.arcs.now c.loop-arc.arc-index 0 p.own c.loop-arc-test.true, few_streets p.town.now)

pub behind_name-requires : goal.behind_name-requires
behind_name-requires c =
    let p = c.args.self.now in
    omega (arith, own_at p.town.now p.arcs.now c.loop-arc.arc-index 0 p.own c.loop-arc-test.true, few_streets p.town.now)
