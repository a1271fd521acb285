use Rattle.std.proofs.Common.{ap, sym, ◌∙◌}
use Rattle.std.proofs.lemmas.List.{nil_from_length}
use Rattle.wrp_tableau.specs.declared.row.Row.{Row}
use Rattle.wrp_tableau.specs.Changes.{changed, changed_rows}
use Rattle.wrp_tableau.proofs.Applying.{changed_from, changed_from-nil, changed_from_next}
use Rattle.wrp_tableau.proofs.change.apply_all.Goals as goal

pub loop-k-preserved : goal.loop-k-preserved
loop-k-preserved c =
    let steps = c.in-Some.ensures.steps in
    let inv = c.loop-k.invariant in
    changed_from_next c.loop-k.k-iterator.count c.next.new.self.count c.in-Some.k c.loop-k.rows.items c.loop-k.k-iterator.iter.rest.items c.in-Some.change c.next.new.self.iter.rest.items (changed_rows c.args.rows.now.items c.args.changes.items) c.index_mut.result.now c.apply.new.row
    steps.0.0 steps.1 steps.2 (c.apply.ensures ∙ ap (λ (z : Row). changed z c.in-Some.change) c.index_mut.ensures.value) inv.count inv.rest

pub returns : goal.returns
returns c =
    let inv = c.loop-k.invariant in
    let len = c.in-None.ensures.steps.0.0 in
    let ok = c.loop-k.k-iterator.iter.rest.ok in
    sym (changed_from-nil c.loop-k.k-iterator.count c.loop-k.rows.items)
    ∙ ap (changed_from c.loop-k.k-iterator.count c.loop-k.rows.items) (sym (nil_from_length c.loop-k.k-iterator.iter.rest.items (sym ok.0 ∙ len))) ∙ inv.rest
