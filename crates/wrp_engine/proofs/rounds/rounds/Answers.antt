use Rattle.std.proofs.Common.{◌≡◌, ◌+◌, ◌-◌, Err, refl, subst, rules, arith}
use Rattle.wrp_engine.specs.declared.left.RoundEnd.TheVariants.{Cut}
use Rattle.wrp_engine.specs.Searches.{search_of}
use Rattle.wrp_engine.specs.Sights.{EndsRound}
use Rattle.wrp_engine.proofs.Adding.{cuts_none, cuts_weaker}
use Rattle.wrp_engine.proofs.Advancing.{same}
use Rattle.wrp_engine.proofs.Counting.{round_more, round_behind, last_round, no_more_rounds}
use Rattle.wrp_engine.proofs.Going.{going_then, stopped_then, untouched_then}
use Rattle.wrp_engine.proofs.Standing.{desk_stays}
use Rattle.wrp_engine.proofs.rounds.rounds.Goals as goal

pub loop-number-init : goal.loop-number-init
loop-number-init g c = record {
  going = (same (search_of c.args.keep.now (g.D.Disk.meaning c.args.disk.now)) c.requires.going.valid, c.requires.going);
  untouched = λ none. refl;
  opened = c.requires.opened;
  adds = cuts_none 0 0 c.args.keep.now c.args.keep.now refl;
}

pub round-requires-clause-desk : goal.round-requires-clause-desk
round-requires-clause-desk g c =
    let m = g.D.Disk.meaning in
    desk_stays (search_of c.args.keep.now (m c.args.disk.now)) (search_of c.loop-number.keep (m c.loop-number.disk)) c.args.node c.args.desk.now
    c.loop-number.invariant.going.0 c.requires.desk

pub returns-in_err-round-clause-leaves : goal.returns-in_err-round-clause-leaves
returns-in_err-round-clause-leaves g c =
    let m = g.D.Disk.meaning in
    let fault = c.in_err-round.field-0.0 in
    let is : c.from_residual.result ≡ Err fault = search rules in
    rw is (stopped_then (search_of c.args.keep.now (m c.args.disk.now)) (search_of c.loop-number.keep (m c.loop-number.disk)) (search_of c.round.new.keep (m c.round.new.disk)) fault
    c.loop-number.invariant.going c.in_err-round.ensures.leaves)

pub returns-in_err-round-clause-adds : goal.returns-in_err-round-clause-adds
returns-in_err-round-clause-adds g c =
    (round_behind c.args.keep.now c.loop-number.keep c.round.new.keep (c.loop-number.number - 1) c.loop-number.invariant.going.0.town
    c.loop-number.invariant.adds c.in_err-round.ensures.adds).adds

pub returns-in-Last-clause-leaves : goal.returns-in-Last-clause-leaves
returns-in-Last-clause-leaves g c =
    let m = g.D.Disk.meaning in
    going_then (search_of c.args.keep.now (m c.args.disk.now)) (search_of c.loop-number.keep (m c.loop-number.disk)) (search_of c.round.new.keep (m c.round.new.disk))
    c.loop-number.invariant.going c.in_ok-round.ensures.leaves

pub returns-in-Last-clause-adds : goal.returns-in-Last-clause-adds
returns-in-Last-clause-adds g c =
    (round_behind c.args.keep.now c.loop-number.keep c.round.new.keep (c.loop-number.number - 1) c.loop-number.invariant.going.0.town
    c.loop-number.invariant.adds c.in_ok-round.ensures.adds).adds

pub returns-in-Last-clause-ends : goal.returns-in-Last-clause-ends
returns-in-Last-clause-ends g c =
    let round = c.loop-number.number in
    last_round c.args.keep.now c.loop-number.keep c.round.new.keep c.args.node (round - 1) round c.in-Last.left c.loop-number.invariant.going.0.town (omega arith)
    c.loop-number.invariant.adds c.in_ok-round.ensures.adds
    (subst (EndsRound c.loop-number.keep c.round.new.keep c.args.node round) c.in-Last.is c.in_ok-round.ensures.ends)

pub loop-number-preserved : goal.loop-number-preserved
loop-number-preserved g c =
    let m = g.D.Disk.meaning in
    let told = c.in_ok-round.ensures in
    let round = c.loop-number.number in
    let start = c.args.keep.now in
    let mid = c.loop-number.keep in
    let new = c.round.new.keep in
    let town = c.loop-number.invariant.going.0.town in
    let ends : EndsRound mid new c.args.node round Cut = subst (EndsRound mid new c.args.node round) c.in-Cut.is told.ends in
    record {
      going = going_then (search_of start (m c.args.disk.now)) (search_of mid (m c.loop-number.disk)) (search_of new (m c.round.new.disk)) c.loop-number.invariant.going told.leaves;
      untouched = untouched_then start.log mid.log c.args.disk.now c.loop-number.disk c.round.new.disk
          c.loop-number.invariant.going.0.bare c.loop-number.invariant.untouched told.untouched;
      opened = ends.1;
      adds = cuts_weaker (round - 1 + 1) (round + 1 - 1) 0 0 0 0 start new (omega arith) (omega arith) (omega arith) (round_more start mid new (round - 1) town c.loop-number.invariant.adds ends.0);
    }

pub unreachable-requires : goal.unreachable-requires
unreachable-requires g c =
    let before = c.loop-number.number - 1 in
    no_more_rounds before 0 0 c.args.keep.now c.loop-number.keep c.loop-number.invariant.going.1.valid (omega (arith, c.loop-number-test.false)) c.loop-number.invariant.adds
