use Rattle.std.proofs.Common.{◌≡◌, Bool, false, cond, List, ◌∷◌, length, Err, rules, refl, sym, ◌∙◌, subst, arith}
use Rattle.std.proofs.lemmas.List.{nil_from_length}
use Rattle.wrp_rules.specs.declared.record.Record.{Record}
use Rattle.wrp_keep.specs.Keeps.{KeepState}
use Rattle.wrp_engine.specs.Searches.{search_of}
use Rattle.wrp_engine.specs.Sights.{EndsOffering}
use Rattle.wrp_engine.proofs.Advancing.{same}
use Rattle.wrp_engine.proofs.Going.{going_then, stopped_then, untouched_then}
use Rattle.wrp_engine.proofs.Cutting.{HasOffered, none_offered, one_offered, one_at_most, cut_written, all_offered, only_weaker}
use Rattle.wrp_engine.proofs.cut.offer_all.Goals as goal

pub offer-requires-clause-going : goal.offer-requires-clause-going
offer-requires-clause-going g c = c.loop-item.invariant.going.1

-- the run of offers before this one
abbrev run_so_far : (old mid : KeepState) (items at left : List Record) (item : Record) (joined : Bool) → at ≡ item ∷ left → HasOffered old items mid at joined → HasOffered old items mid (item ∷ left) joined
run_so_far old mid items at left item joined is so = subst (λ (rs : List Record). HasOffered old items mid rs joined) is so

pub offer-requires-clause-writable : goal.offer-requires-clause-writable
offer-requires-clause-writable g c =
    let old = c.args.keep.now in
    let mid = c.loop-item.keep in
    let left = c.next.new.self.rest.items in
    cut_written old mid mid c.args.items.items c.in-Some.item left c.loop-item.joined c.requires.tour c.requires.going.valid c.loop-item.invariant.going.0.town
    (run_so_far old mid c.args.items.items c.loop-item.item-iterator.rest.items left c.in-Some.item c.loop-item.joined c.in-Some.ensures.steps.0 c.loop-item.invariant.offered)

pub loop-item-init : goal.loop-item-init
loop-item-init g c =
    let is : c.into_iter-item-iterator.result.rest.items ≡ c.args.items.items = search rules in
    record {
      going = (same (search_of c.args.keep.now (g.D.Disk.meaning c.args.disk.now)) c.requires.going.valid, c.requires.going);
      untouched = λ none. refl;
      offered = subst (λ (left : List Record). HasOffered c.args.keep.now c.args.items.items c.args.keep.now left false) (sym is)
          (none_offered c.args.keep.now c.args.items.items c.requires.few c.requires.cuts);
    }

pub loop-item-preserved : goal.loop-item-preserved
loop-item-preserved g c =
    let m = g.D.Disk.meaning in
    let old = c.args.keep.now in
    let mid = c.loop-item.keep in
    let new = c.offer.new.keep in
    let left = c.next.new.self.rest.items in
    record {
      going = going_then (search_of old (m c.args.disk.now)) (search_of mid (m c.loop-item.disk)) (search_of new (m c.offer.new.disk))
          c.loop-item.invariant.going c.in_ok-joined.ensures.leaves;
      untouched = untouched_then old.log mid.log c.args.disk.now c.loop-item.disk c.offer.new.disk
          c.loop-item.invariant.going.0.bare c.loop-item.invariant.untouched c.in_ok-joined.ensures.untouched;
      offered = one_offered old mid new c.args.items.items c.in-Some.item left c.loop-item.joined c.requires.tour c.requires.going.valid c.loop-item.invariant.going.0.town
          (run_so_far old mid c.args.items.items c.loop-item.item-iterator.rest.items left c.in-Some.item c.loop-item.joined c.in-Some.ensures.steps.0 c.loop-item.invariant.offered)
          c.in_ok-joined.field-0 c.in_ok-joined.ensures.offers;
    }

pub returns-in_err-joined-clause-adds : goal.returns-in_err-joined-clause-adds
returns-in_err-joined-clause-adds g c =
    let old = c.args.keep.now in
    let mid = c.loop-item.keep in
    let left = c.next.new.self.rest.items in
    one_at_most old mid c.offer.new.keep c.args.items.items c.in-Some.item left c.loop-item.joined c.requires.tour c.requires.going.valid c.loop-item.invariant.going.0.town
    (run_so_far old mid c.args.items.items c.loop-item.item-iterator.rest.items left c.in-Some.item c.loop-item.joined c.in-Some.ensures.steps.0 c.loop-item.invariant.offered)
    c.in_err-joined.ensures.at_most

pub returns-in_err-joined-clause-leaves : goal.returns-in_err-joined-clause-leaves
returns-in_err-joined-clause-leaves g c =
    let m = g.D.Disk.meaning in
    let fault = c.in_err-joined.field-0.0 in
    let is : c.from_residual.result ≡ Err fault = search rules in
    rw is (stopped_then (search_of c.args.keep.now (m c.args.disk.now)) (search_of c.loop-item.keep (m c.loop-item.disk)) (search_of c.offer.new.keep (m c.offer.new.disk)) fault
    c.loop-item.invariant.going c.in_err-joined.ensures.leaves)

pub returns-in_err-joined-clause-untouched : goal.returns-in_err-joined-clause-untouched
returns-in_err-joined-clause-untouched g c =
    untouched_then c.args.keep.now.log c.loop-item.keep.log c.args.disk.now c.loop-item.disk c.offer.new.disk
    c.loop-item.invariant.going.0.bare c.loop-item.invariant.untouched c.in_err-joined.ensures.untouched

pub returns-clause-leaves : goal.returns-clause-leaves
returns-clause-leaves g c = c.loop-item.invariant.going

pub returns-clause-untouched : goal.returns-clause-untouched
returns-clause-untouched g c = c.loop-item.invariant.untouched

-- behind the last item
none_left : (old new : KeepState) (items left : List Record) (joined : Bool) → length left ≡ 0 → HasOffered old items new left joined → EndsOffering old new items joined
none_left old new items left joined none so =
    all_offered old new items joined (subst (λ (rs : List Record). HasOffered old items new rs joined) (nil_from_length left none) so)

pub returns-clause-adds : goal.returns-clause-adds
returns-clause-adds g c =
    let adds = c.loop-item.invariant.offered.adds in
    only_weaker 0 (cond c.loop-item.joined 1 0) c.args.keep.now c.loop-item.keep (omega arith) adds

pub returns-clause-ends : goal.returns-clause-ends
returns-clause-ends g c =
    let left = c.loop-item.item-iterator.rest in
    none_left c.args.keep.now c.loop-item.keep c.args.items.items left.items c.loop-item.joined
    (sym left.ok.0 ∙ c.in-None.ensures.steps.0) c.loop-item.invariant.offered
