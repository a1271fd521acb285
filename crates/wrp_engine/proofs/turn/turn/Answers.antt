use Rattle.std.specs.Prelude.{⊤}
use Rattle.wrp_engine.specs.Searches.{search_of}
use Rattle.wrp_engine.proofs.Adding.{where_same}
use Rattle.wrp_engine.proofs.Advancing.{leaves_then}
use Rattle.wrp_engine.proofs.turn.turn.Goals as goal

pub returns-clause-leaves : goal.returns-clause-leaves
returns-clause-leaves g c =
    let m = g.D.Disk.meaning in
    leaves_then (search_of c.args.keep.now (m c.args.disk.now)) (search_of c.do_node.new.keep (m c.do_node.new.disk))
    (search_of c.settle.new.keep (m c.settle.new.disk)) c.settle.result c.in_ok-do_node.ensures.leaves.0 c.settle.ensures.leaves

pub returns-clause-adds : goal.returns-clause-adds
returns-clause-adds g c =
    where_same (λ _. ⊤) 4 2 c.args.keep.now c.do_node.new.keep c.settle.new.keep c.settle.ensures.same c.in_ok-do_node.ensures.adds
