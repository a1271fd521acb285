use Rattle.std.proofs.Common.{◌+◌, Bool, ◌||◌, ap, sym, ◌∙◌, arith}
use Rattle.wrp_rules.specs.Rows.{is_held}
use Rattle.wrp_rows.proofs.Ranges.{any_more}
use Rattle.wrp_rows.proofs.chain.mark_held.Goals as goal

pub loop-street-preserved : goal.loop-street-preserved
loop-street-preserved c = λ i below.
    let held = is_held c.args.town.now c.args.of.now (i + 1) in
    c.mark_set.ensures i (omega arith)
    ∙ ap (λ (t : Bool). t || held c.loop-street.street) (c.loop-street.invariant i (omega arith))
    ∙ sym (any_more held c.loop-street.street)
