use Rattle.std.proofs.Common.{◌+◌, ◌*◌, refl, arith}
use Rattle.std.specs.Prelude.{⊤}
use Rattle.wrp_log.proofs.Adding.{on_ok_map}
use Rattle.wrp_engine.specs.Searches.{search_of}
use Rattle.wrp_engine.proofs.Adding.{adds_none, adds_then, adds_tour, where_weaker}
use Rattle.wrp_engine.proofs.Advancing.{leaves_then, advanced}
use Rattle.wrp_engine.proofs.Working.{worked_then, keeps_upper}
use Rattle.wrp_engine.proofs.searching.work.Goals as goal

pub returns-clause-leaves : goal.returns-clause-leaves
returns-clause-leaves g c =
    let m = g.D.Disk.meaning in
    leaves_then (search_of c.args.keep.now (m c.args.disk.now)) (search_of c.begin.new.keep (m c.begin.new.disk))
    (search_of c.turns.new.keep (m c.turns.new.disk)) c.turns.result c.in_ok-begin.ensures.leaves.0 c.turns.ensures.leaves

pub returns-clause-upper : goal.returns-clause-upper
returns-clause-upper g c =
    let m = g.D.Disk.meaning in
    let mid = search_of c.begin.new.keep (m c.begin.new.disk) in
    let new = search_of c.turns.new.keep (m c.turns.new.disk) in
    on_ok_map c.turns.result (λ worked. keeps_upper mid new (advanced mid new c.turns.result c.turns.ensures.leaves) c.in_ok-begin.ensures.upper) c.turns.ensures.worked

pub returns-clause-worked : goal.returns-clause-worked
returns-clause-worked g c =
    let m = g.D.Disk.meaning in
    on_ok_map c.turns.result
    (λ worked. worked_then (search_of c.args.keep.now (m c.args.disk.now)) (search_of c.begin.new.keep (m c.begin.new.disk)) (search_of c.turns.new.keep (m c.turns.new.disk))
    c.args.budget c.in_ok-begin.ensures.leaves.0 worked) c.turns.ensures.worked

pub returns-in_err-desk-clause-adds : goal.returns-in_err-desk-clause-adds
returns-in_err-desk-clause-adds g c = adds_none (λ _. ⊤) (4 * c.args.budget + 1) (2 * c.args.budget + 1) c.args.keep.now c.args.keep.now refl

pub returns-in_err-begin-clause-adds : goal.returns-in_err-begin-clause-adds
returns-in_err-begin-clause-adds g c =
    where_weaker (λ _. ⊤) 1 (4 * c.args.budget + 1) 1 (2 * c.args.budget + 1) c.args.keep.now c.begin.new.keep (omega arith) (omega arith) (adds_tour c.args.keep.now c.begin.new.keep c.in_err-begin.ensures.adds)

pub returns-clause-adds : goal.returns-clause-adds
returns-clause-adds g c =
    let b = c.args.budget in
    where_weaker (λ _. ⊤) (1 + 4 * b) (4 * b + 1) (1 + 2 * b) (2 * b + 1) c.args.keep.now c.turns.new.keep (omega arith) (omega arith)
    (adds_then 1 (4 * b) 1 (2 * b) c.args.keep.now c.begin.new.keep c.turns.new.keep c.in_ok-begin.ensures.leaves.0.town
    (adds_tour c.args.keep.now c.begin.new.keep c.in_ok-begin.ensures.adds) c.turns.ensures.adds)
