use Rattle.std.proofs.Common.{◌≡◌, ◌+◌, ◌*◌, Err, rules, subst, arith}
use Rattle.std.specs.Prelude.{⊤}
use Rattle.wrp_town.specs.declared.town.Town.{Town}
use Rattle.wrp_engine.specs.Searches.{search_of, IsOpenAt}
use Rattle.wrp_engine.specs.Desks.{IsDesk}
use Rattle.wrp_engine.proofs.Going.{going_then, stopped_then, untouched_then}
use Rattle.wrp_engine.proofs.Adding.{adds_then, where_weaker}
use Rattle.wrp_engine.proofs.Working.{does_more}
use Rattle.wrp_engine.proofs.searching.turns.Goals as goal

pub returns-in_err-turn-clause-leaves : goal.returns-in_err-turn-clause-leaves
returns-in_err-turn-clause-leaves g c =
    let m = g.D.Disk.meaning in
    let fault = c.in_err-turn.field-0.0 in
    let is : c.from_residual.result ≡ Err fault = search rules in
    rw is (stopped_then (search_of c.args.keep.now (m c.args.disk.now)) (search_of c.loop.keep (m c.loop.disk)) (search_of c.turn.new.keep (m c.turn.new.disk)) fault
    c.loop.invariant.going c.in_err-turn.ensures.leaves)

pub loop-preserved : goal.loop-preserved
loop-preserved g c =
    let m = g.D.Disk.meaning in
    let start = search_of c.args.keep.now (m c.args.disk.now) in
    let before = search_of c.loop.keep (m c.loop.disk) in
    let after = search_of c.turn.new.keep (m c.turn.new.disk) in
    let told = c.in_ok-turn.ensures in
    let opened : IsOpenAt c.loop.keep c.in-Some.node = search rules in
    record {
      going = going_then start before after c.loop.invariant.going told.leaves;
      untouched = untouched_then c.args.keep.now.log c.loop.keep.log c.args.disk.now c.loop.disk c.turn.new.disk
          c.loop.invariant.going.0.bare c.loop.invariant.untouched told.untouched;
      desk = subst (λ (t : Town). IsDesk t c.turn.new.desk) c.loop.invariant.going.0.town told.desk;
      settled = told.settled;
      adds = where_weaker (λ _. ⊤) (4 * c.loop.counter + 4) (4 * (c.loop.counter + 1)) (2 * c.loop.counter + 2) (2 * (c.loop.counter + 1)) c.args.keep.now c.turn.new.keep (omega arith) (omega arith)
          (adds_then (4 * c.loop.counter) 4 (2 * c.loop.counter) 2 c.args.keep.now c.loop.keep c.turn.new.keep c.loop.invariant.going.0.town c.loop.invariant.adds told.adds);
      worked = omega (arith, c.loop.invariant.worked, does_more before after c.in-Some.node told.leaves.0 opened told.done);
    }

pub returns-in_err-turn-clause-adds : goal.returns-in_err-turn-clause-adds
returns-in_err-turn-clause-adds g c =
    let k = c.loop.counter in
    where_weaker (λ _. ⊤) (4 * k + 4) (4 * c.args.budget) (2 * k + 2) (2 * c.args.budget) c.args.keep.now c.turn.new.keep
    (omega (arith, c.loop-test.true)) (omega (arith, c.loop-test.true))
    (adds_then (4 * k) 4 (2 * k) 2 c.args.keep.now c.loop.keep c.turn.new.keep c.loop.invariant.going.0.town c.loop.invariant.adds c.in_err-turn.ensures.adds)

pub returns-clause-adds : goal.returns-clause-adds
returns-clause-adds g c =
    let k = c.loop.counter in
    where_weaker (λ _. ⊤) (4 * k) (4 * c.args.budget) (2 * k) (2 * c.args.budget) c.args.keep.now c.loop.keep
    (omega (arith, c.loop.auto.counter-end)) (omega (arith, c.loop.auto.counter-end)) c.loop.invariant.adds
