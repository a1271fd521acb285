use Rattle.std.proofs.Common.{◌||◌, sym, ◌∙◌}
use Rattle.wrp_town.specs.Arcs.{is_legal}
use Rattle.wrp_turn.specs.TurnTowns.{is_unservable}
use Rattle.wrp_turn.proofs.Collected.{collected_yes, collected_no}
use Rattle.wrp_turn.proofs.arcs.arcs_of.Goals as goal
use Rattle.wrp_turn.proofs.arcs.arcs_of.Goals.{then-has_own_street+in_ok-push, else-has_own_street}

pub loop-arc-preserved : goal.loop-arc-preserved
loop-arc-preserved c =
    let town = c.town-town.result.now in
    elim c.if-has_own_street.branch [
      | then-has_own_street+in_ok-push w ↦ collected_yes (λ arc. is_legal town arc || is_unservable town arc) c.loop-arc.arc c.loop-arc.arcs c.if-has_own_street.arcs (sym c.has_own_street.ensures ∙ w.if-has_own_street.true) c.loop-arc.invariant (w.arcs-is ∙ w.in_ok-push.ensures.ok)
      | else-has_own_street w ↦ w.arcs-is ∙ collected_no (λ arc. is_legal town arc || is_unservable town arc) c.loop-arc.arc c.loop-arc.arcs (sym c.has_own_street.ensures ∙ w.if-has_own_street.false) c.loop-arc.invariant
    ]
