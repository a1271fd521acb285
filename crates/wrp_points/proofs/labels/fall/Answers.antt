use Rattle.std.proofs.Common.{◌≡◌, ◌*◌, true, not, ◌||◌, Bool, ℕ, Option, is_some, ap, sym, ◌∙◌}
use Rattle.wrp_town.specs.Arcs.{is_legal}
use Rattle.wrp_rules.specs.Rules.{falls_along}
use Rattle.wrp_points.proofs.LegalArcs.{next_and_rest, rest_decides, or_left, or_right}
use Rattle.wrp_points.proofs.labels.fall.Goals as goal
use Rattle.wrp_points.proofs.labels.fall.Goals.{else-is_some-via-then-is_some+else-not-falls, else-is_some-via-else-is_some}

pub loop-arc-preserved : goal.loop-arc-preserved
loop-arc-preserved c =
    let town = c.args.town.now in
    let arc = c.loop-arc.arc in
    let parts = next_and_rest (falls_along town c.args.labels.now) (is_legal town) arc (2 * c.len.result) c.loop-arc-test.true in
    let passes : (not (is_legal town arc) || falls_along town c.args.labels.now arc) ≡ true =
    elim c.else-is_some.branch [
      | else-is_some-via-then-is_some+else-not-falls w ↦ or_right (not (is_legal town arc)) (falls_along town c.args.labels.now arc) (sym w.falls.ensures ∙ w.if-not-falls.false)
      | else-is_some-via-else-is_some w ↦ or_left (not (is_legal town arc)) (falls_along town c.args.labels.now arc) (ap (λ (t : Bool). not t) (ap (λ (o : Option ℕ). is_some o) (sym c.cost.ensures.value) ∙ sym c.is_some.ensures ∙ w.if-is_some.false))
    ] in
    rest_decides _ _ _ _ c.loop-arc.invariant parts passes
