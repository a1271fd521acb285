use Rattle.std.proofs.Common.{arith}
use Rattle.wrp_town.proofs.TownLaws.{few_streets, legal_below, legal_step_below}
use Rattle.wrp_euler.proofs.TrailLaws.{last_legal}
use Rattle.wrp_euler.proofs.trail.Trail.go_back.Goals as goal

pub arc-requires : goal.arc-requires
arc-requires c =
    let town = c.args.graph.now in
    let trail = c.args.self.now in
    let legal = last_legal town trail.base trail.path.items trail.at _ c.in-Some.step c.requires.trail.goes c.in-Some.ensures.items in
    omega (arith, few_streets town, legal_step_below town c.in-Some.step legal)

pub tail-self-requires : goal.tail-self-requires
tail-self-requires c =
    let town = c.args.graph.now in
    let trail = c.args.self.now in
    let legal = last_legal town trail.base trail.path.items trail.at _ c.in-Some.step c.requires.trail.goes c.in-Some.ensures.items in
    rw c.town.ensures (rw c.arc.ensures (legal_below town _ legal))
