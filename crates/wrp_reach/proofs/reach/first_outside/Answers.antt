use Rattle.std.proofs.Common.{below_more, sym, ◌∙◌}
use Rattle.wrp_reach.proofs.reach.first_outside.Goals as goal

pub loop-street-preserved : goal.loop-street-preserved
loop-street-preserved c = below_more _ _ c.loop-street.invariant (sym c.breaks_label.ensures ∙ c.if-breaks_label.false)
