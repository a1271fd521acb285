use Rattle.std.proofs.Common.{◌≡◌, ◌∙◌, [], Err, ap, rules, subst, arith}
use Rattle.std.specs.Prelude.{Ok, ⊤}
use Rattle.wrp_rules.specs.declared.record.Record.{Record}
use Rattle.wrp_rules.specs.declared.record.Record.TheVariants.{Bound}
use Rattle.wrp_writer.specs.Limits.{is_writable}
use Rattle.wrp_engine.specs.Searches.{search_of}
use Rattle.wrp_engine.specs.Offers.{IsOffered, AddsAtMost}
use Rattle.wrp_engine.proofs.Adding.{adds_then, adds_free, adds_tour, where_weaker}
use Rattle.wrp_engine.proofs.Going.{going_then, stopped_then}
use Rattle.wrp_engine.proofs.Shutting.{bound_writable}
use Rattle.wrp_engine.proofs.Ending.{ended}
use Rattle.wrp_engine.proofs.close.close_by_tour.Goals as goal

pub offer-requires-clause-writable : goal.offer-requires-clause-writable
offer-requires-clause-writable g c = ap is_writable c.bare_bound.ensures ∙ bound_writable c.args.node c.requires.small

pub returns-in_err-offer_tour-clause-adds : goal.returns-in_err-offer_tour-clause-adds
returns-in_err-offer_tour-clause-adds g c =
    where_weaker (λ _. ⊤) 1 2 1 1 c.args.keep.now c.offer_tour.new.keep (omega arith) (omega arith) (adds_tour c.args.keep.now c.offer_tour.new.keep c.in_err-offer_tour.ensures.adds)

pub returns-in_err-offer-clause-leaves : goal.returns-in_err-offer-clause-leaves
returns-in_err-offer-clause-leaves g c =
    let m = g.D.Disk.meaning in
    let fault = c.in_err-offer.field-0.0 in
    let is : c.from_residual-in_err-offer.result ≡ Err fault = search rules in
    rw is (stopped_then (search_of c.args.keep.now (m c.args.disk.now)) (search_of c.offer_tour.new.keep (m c.offer_tour.new.disk)) (search_of c.offer.new.keep (m c.offer.new.disk)) fault
    c.in_ok-offer_tour.ensures.leaves c.in_err-offer.ensures.leaves)

pub returns-in_err-offer-clause-adds : goal.returns-in_err-offer-clause-adds
returns-in_err-offer-clause-adds g c =
    adds_then 1 1 1 0 c.args.keep.now c.offer_tour.new.keep c.offer.new.keep c.in_ok-offer_tour.ensures.leaves.0.town
    (adds_tour c.args.keep.now c.offer_tour.new.keep c.in_ok-offer_tour.ensures.adds)
    (adds_free 0 c.offer_tour.new.keep c.offer.new.keep (Bound c.args.node 1 []) (omega arith) (λ entry added. record {})
    (subst (λ (r : Record). AddsAtMost r c.offer_tour.new.keep c.offer.new.keep) c.bare_bound.ensures c.in_err-offer.ensures.at_most))

pub returns-clause-leaves : goal.returns-clause-leaves
returns-clause-leaves g c =
    let m = g.D.Disk.meaning in
    going_then (search_of c.args.keep.now (m c.args.disk.now)) (search_of c.offer_tour.new.keep (m c.offer_tour.new.disk)) (search_of c.offer.new.keep (m c.offer.new.disk))
    c.in_ok-offer_tour.ensures.leaves c.in_ok-offer.ensures.leaves

pub returns-clause-adds : goal.returns-clause-adds
returns-clause-adds g c =
    adds_then 1 1 1 0 c.args.keep.now c.offer_tour.new.keep c.offer.new.keep c.in_ok-offer_tour.ensures.leaves.0.town
    (adds_tour c.args.keep.now c.offer_tour.new.keep c.in_ok-offer_tour.ensures.adds)
    (adds_free 0 c.offer_tour.new.keep c.offer.new.keep (Bound c.args.node 1 []) (omega arith) (λ entry added. record {})
    (subst (λ (r : Record). AddsAtMost r c.offer_tour.new.keep c.offer.new.keep) c.bare_bound.ensures c.in_ok-offer.ensures.at_most))

pub returns-clause-done : goal.returns-clause-done
returns-clause-done g c =
    let m = g.D.Disk.meaning in
    ended (search_of c.args.keep.now (m c.args.disk.now)) (search_of c.offer_tour.new.keep (m c.offer_tour.new.disk)) c.args.node c.args.steps
    c.requires.tour c.requires.opened c.requires.small c.requires.ends c.in_ok-offer_tour.ensures.leaves.0 c.in_ok-offer_tour.ensures.upper
    (search_of c.offer.new.keep (m c.offer.new.disk)) (Ok c.in_ok-offer.field-0) c.in_ok-offer.ensures.leaves
    (subst (λ (r : Record). IsOffered r c.offer_tour.new.keep c.offer.new.keep) c.bare_bound.ensures (c.in_ok-offer.field-0, c.in_ok-offer.ensures.offers))
