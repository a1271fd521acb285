use Rattle.std.proofs.Common.{rules, arith}
use Rattle.std.specs.Prelude.{⊤}
use Rattle.wrp_engine.specs.declared.desk.Desk.{Desk}
use Rattle.wrp_engine.specs.Searches.{search_of}
use Rattle.wrp_engine.proofs.Adding.{where_weaker}
use Rattle.wrp_engine.proofs.Advancing.{leaves_then}
use Rattle.wrp_engine.proofs.Standing.{desk_stays}
use Rattle.wrp_engine.proofs.Turning.{turn_adds}
use Rattle.wrp_engine.proofs.turn.do_node.Goals as goal

pub finish-requires-clause-desk : goal.finish-requires-clause-desk
finish-requires-clause-desk g c =
    let m = g.D.Disk.meaning in
    let desk : Desk = record { graph = c.args.desk.now.graph; parts = c.args.desk.now.parts; bounds = c.box_of.new.into; scratch = c.args.desk.now.scratch } in
    desk_stays (search_of c.args.keep.now (m c.args.disk.now)) (search_of c.rounds.new.keep (m c.rounds.new.disk)) c.args.node desk
    c.in_ok-left.ensures.leaves.0 (search rules)

pub finish-requires-clause-left : goal.finish-requires-clause-left
finish-requires-clause-left g c = c.in_ok-left.ensures.ends.leaves

pub returns-clause-leaves : goal.returns-clause-leaves
returns-clause-leaves g c =
    let m = g.D.Disk.meaning in
    leaves_then (search_of c.args.keep.now (m c.args.disk.now)) (search_of c.rounds.new.keep (m c.rounds.new.disk))
    (search_of c.finish.new.keep (m c.finish.new.disk)) c.finish.result c.in_ok-left.ensures.leaves.0 c.finish.ensures.leaves

pub returns-in_err-left-clause-adds : goal.returns-in_err-left-clause-adds
returns-in_err-left-clause-adds g c =
    where_weaker (λ _. ⊤) 2 4 1 2 c.args.keep.now c.rounds.new.keep (omega arith) (omega arith) c.in_err-left.ensures.adds

pub returns-clause-adds : goal.returns-clause-adds
returns-clause-adds g c =
    turn_adds c.args.keep.now c.rounds.new.keep c.finish.new.keep c.args.node c.in_ok-left.left c.in_ok-left.ensures.leaves.0.town c.in_ok-left.ensures.ends c.finish.ensures.adds
