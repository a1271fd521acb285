use Rattle.std.proofs.Common.{Option, IfSome, ap, subst, Bor}
use Rattle.std.specs.Option.{option_map}
use Rattle.wrp_rows.specs.declared.point.Point.{Point}
use Rattle.wrp_box.specs.Relaxing.{IsPointIn}
use Rattle.wrp_engine.specs.Searches.{search_of, now, at_node}
use Rattle.wrp_engine.proofs.Advancing.{advanced, leaves_then}
use Rattle.wrp_engine.proofs.Showing.{may_be_told, shown_alone, shown_with_tour, shown_box, shown_with_tour_box, told_hard, told_near}
use Rattle.wrp_engine.proofs.show.show.Goals as goal

abbrev pointed : Bor Point → Point
pointed p = p.now

pub tell-requires-clause-writable : goal.tell-requires-clause-writable
tell-requires-clause-writable g c = may_be_told c.args.node c.args.shown c.requires.written

pub returns-in_err-tell-clause-adds : goal.returns-in_err-tell-clause-adds
returns-in_err-tell-clause-adds g c =
    shown_alone c.args.node c.args.keep.now c.tell.new.keep c.args.shown c.requires.written c.in_err-tell.ensures.at_most

pub returns-in_err-tell-clause-stays : goal.returns-in_err-tell-clause-stays
returns-in_err-tell-clause-stays g c =
    let m = g.D.Disk.meaning in
    shown_box (search_of c.args.keep.now (m c.args.disk.now)) (search_of c.tell.new.keep (m c.tell.new.disk)) c.in_err-tell.ensures.leaves.0
    c.args.node c.requires.opened.there c.args.shown c.requires.written c.in_err-tell.ensures.at_most

pub returns-in-None-clause-adds : goal.returns-in-None-clause-adds
returns-in-None-clause-adds g c =
    shown_alone c.args.node c.args.keep.now c.tell.new.keep c.args.shown c.requires.written c.in_ok-tell.ensures.at_most

pub returns-in-None-clause-stays : goal.returns-in-None-clause-stays
returns-in-None-clause-stays g c =
    let m = g.D.Disk.meaning in
    shown_box (search_of c.args.keep.now (m c.args.disk.now)) (search_of c.tell.new.keep (m c.tell.new.disk)) c.in_ok-tell.ensures.leaves.0
    c.args.node c.requires.opened.there c.args.shown c.requires.written c.in_ok-tell.ensures.at_most

pub returns-in-None-clause-told : goal.returns-in-None-clause-told
returns-in-None-clause-told g c =
    let m = g.D.Disk.meaning in
    told_hard (search_of c.args.keep.now (m c.args.disk.now)) (search_of c.tell.new.keep (m c.tell.new.disk)) c.args.node c.requires.going c.requires.tour c.requires.opened
    c.args.shown c.requires.written c.in_ok-tell.ensures.leaves.0 c.in_ok-tell.ensures.at_most c.in_ok-tell.field-0 c.in_ok-tell.ensures.offers
    (option_map pointed c.args.point) (ap (option_map pointed) c.in-None.is) c.requires.told

pub returns-in-Some-clause-leaves : goal.returns-in-Some-clause-leaves
returns-in-Some-clause-leaves g c =
    let m = g.D.Disk.meaning in
    leaves_then (search_of c.args.keep.now (m c.args.disk.now)) (search_of c.tell.new.keep (m c.tell.new.disk))
    (search_of c.offer_near.new.keep (m c.offer_near.new.disk)) c.offer_near.result
    c.in_ok-tell.ensures.leaves.0 c.offer_near.ensures.leaves

pub returns-in-Some-clause-adds : goal.returns-in-Some-clause-adds
returns-in-Some-clause-adds g c =
    shown_with_tour c.args.node c.args.keep.now c.tell.new.keep c.offer_near.new.keep c.args.shown c.in_ok-tell.ensures.leaves.0.town
    c.requires.written c.in_ok-tell.ensures.at_most c.offer_near.ensures.adds

pub returns-in-Some-clause-stays : goal.returns-in-Some-clause-stays
returns-in-Some-clause-stays g c =
    let m = g.D.Disk.meaning in
    let last = search_of c.offer_near.new.keep (m c.offer_near.new.disk) in
    let mid = search_of c.tell.new.keep (m c.tell.new.disk) in
    shown_with_tour_box (search_of c.args.keep.now (m c.args.disk.now)) mid last c.args.node c.args.shown c.requires.opened
    c.requires.written c.in_ok-tell.ensures.leaves.0 c.in_ok-tell.ensures.at_most
    (advanced mid last c.offer_near.result c.offer_near.ensures.leaves) c.offer_near.ensures.adds

pub returns-in-Some-clause-told : goal.returns-in-Some-clause-told
returns-in-Some-clause-told g c =
    let m = g.D.Disk.meaning in
    let keep = c.args.keep.now in
    told_near (search_of keep (m c.args.disk.now)) (search_of c.tell.new.keep (m c.tell.new.disk)) c.args.node c.requires.going c.requires.tour c.requires.opened
    c.args.shown c.requires.written c.in_ok-tell.ensures.leaves.0 c.in_ok-tell.ensures.at_most c.in_ok-tell.field-0 c.in_ok-tell.ensures.offers
    (option_map pointed c.args.point) c.in-Some.point.now (search_of c.offer_near.new.keep (m c.offer_near.new.disk)) c.offer_near.result (ap (option_map pointed) c.in-Some.is)
    (subst (λ (o : Option (Bor Point)). IfSome o (λ p. IsPointIn keep.town (now keep) (at_node keep c.args.node) p.now)) c.in-Some.is c.requires.within)
    c.requires.told c.offer_near.ensures.leaves c.offer_near.ensures.adds c.offer_near.ensures.near
