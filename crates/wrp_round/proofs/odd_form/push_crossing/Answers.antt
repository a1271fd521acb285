use Rattle.std.proofs.Common.{true, false, ap, sym, ◌∙◌, arith}
use Rattle.std.proofs.lemmas.List.{append-nil}
use Rattle.wrp_round.proofs.FormRows.{streets_counted}
use Rattle.wrp_round.proofs.odd_form.push_crossing.Goals.{then-is_crossing+in_ok-push_numbers, else-is_crossing}
use Rattle.wrp_round.proofs.odd_form.push_crossing.Goals as goal

pub loop-i-preserved : goal.loop-i-preserved
loop-i-preserved c =
    let town = c.args.town.now in
    let i = c.loop-i.i in
    let count = c.demand_count-count.result in
    let few = c.demand_count-count.ensures.few in
    let low = c.loop-i.invariant.low in
    record {
      low = omega arith;
      rows = λ set are. elim c.if-is_crossing.branch [
        | then-is_crossing+in_ok-push_numbers w ↦
            streets_counted town set c.as_slice-street-items.result.now i c.loop-i.first count c.street-item.result true c.loop-i.rows.items c.if-is_crossing.rows.items _
            c.as_slice-street-items.ensures c.loop-i-test.true c.street-item.is (c.demand_count-count.ensures.count i) (sym (c.is_crossing.ensures set are) ∙ w.if-is_crossing.true)
            (ap (λ (v : _). v.items) w.rows-is ∙ w.in_ok-push_numbers.ensures) (c.loop-i.invariant.rows set are)
        | else-is_crossing w ↦
            streets_counted town set c.as_slice-street-items.result.now i c.loop-i.first count c.street-item.result false c.loop-i.rows.items c.if-is_crossing.rows.items _
            c.as_slice-street-items.ensures c.loop-i-test.true c.street-item.is (c.demand_count-count.ensures.count i) (sym (c.is_crossing.ensures set are) ∙ w.if-is_crossing.false)
            (ap (λ (v : _). v.items) w.rows-is ∙ sym (append-nil c.loop-i.rows.items)) (c.loop-i.invariant.rows set are)
      ];
    }
