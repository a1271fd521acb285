use Rattle.std.proofs.Common.{◌≡◌, ◌*◌, true, not, ◌||◌, Bool, ℕ, Option, is_some, ap, sym, ◌∙◌}
use Rattle.wrp_town.specs.Arcs.{is_legal}
use Rattle.wrp_tree.specs.Leaks.{stays_at}
use Rattle.wrp_points.proofs.LegalArcs.{next_and_rest, rest_decides, or_left, or_right}
use Rattle.wrp_tree.proofs.apart.are_shut.Goals as goal
use Rattle.wrp_tree.proofs.apart.are_shut.Goals.{else-is_some-via-then-is_some+else-not-stays, else-is_some-via-else-is_some}

pub loop-arc-preserved : goal.loop-arc-preserved
loop-arc-preserved c =
    let town = c.args.town.now in
    let arc = c.loop-arc.arc in
    let parts = next_and_rest (stays_at town c.args.marks.now c.args.hi.now) (is_legal town) arc (2 * c.len.result) c.loop-arc-test.true in
    let passes : (not (is_legal town arc) || stays_at town c.args.marks.now c.args.hi.now arc) ≡ true =
    elim c.else-is_some.branch [
      | else-is_some-via-then-is_some+else-not-stays w ↦ or_right (not (is_legal town arc)) (stays_at town c.args.marks.now c.args.hi.now arc) (sym w.stays.ensures ∙ w.if-not-stays.false)
      | else-is_some-via-else-is_some w ↦ or_left (not (is_legal town arc)) (stays_at town c.args.marks.now c.args.hi.now arc) (ap (λ (t : Bool). not t) (ap (λ (o : Option ℕ). is_some o) (sym c.cost.ensures.value) ∙ sym c.is_some.ensures ∙ w.if-is_some.false))
    ] in
    rest_decides _ _ _ _ c.loop-arc.invariant parts passes
