use Rattle.std.proofs.Common.{◌≡◌, ◌+◌, ◌<◌, ◌≤◌, ◌∷◌, ◌++◌, [], ℕ, List, length, slice_index, ap, subst, sym, ◌∙◌, inl, inr, arith}
use Rattle.std.proofs.lemmas.List.{get_or_default}
use Rattle.wrp_odd.proofs.Components.{AreLabelsTo, labels_more}
use Rattle.wrp_odd.proofs.merging.Merged.labels.Goals as goal
use Rattle.wrp_odd.proofs.merging.Merged.labels.Goals.{then-parent-j, else-parent-j}

by_low : (parents : List ℕ) (j : ℕ) → slice_index parents j ≤ j → (slice_index parents j ≡ j → ⊥) → slice_index parents j < j
by_low parents j low differs = omega arith

pub loop-j-preserved : goal.loop-j-preserved
loop-j-preserved c =
    let parents : List ℕ = c.args.self.now.parents.items in
    let labels = c.loop-j.labels.items in
    let j = c.loop-j.j in
    let lent : c.deref-parent-items.result.now ≡ parents = c.deref-parent-items.ensures.value in
    let read : slice_index c.deref-parent-items.result.now j ≡ slice_index parents j = ap (λ (xs : List ℕ). slice_index xs j) lent in
    let below : j < length parents = omega (arith, ap (λ (xs : List ℕ). length xs) lent, c.loop-j-test.true) in
    let more : AreLabelsTo parents (labels ++ c.if-parent-j.label ∷ []) (j + 1) =
    labels_more parents labels j c.if-parent-j.label c.requires.parents below c.loop-j.invariant
    (elim c.if-parent-j.branch [
      | then-parent-j w ↦ inl (sym read ∙ w.if-parent-j.true, w.label-is ∙ w.if-parent-j.true)
      | else-parent-j w ↦ (
          let parent : slice_index parents j < j = by_low parents j (c.requires.parents.low j below) (λ e. w.if-parent-j.false (read ∙ e)) in
          let inside : slice_index c.deref-parent-items.result.now j < length labels = omega (arith, read, c.loop-j.invariant.long) in
          inr ((λ e. w.if-parent-j.false (read ∙ e)), w.label-is ∙ w.index.ensures ∙ get_or_default labels (slice_index c.deref-parent-items.result.now j) w.index.result.now 0 inside ∙ ap (slice_index labels) read)
          )
    ]) in
    subst (λ (xs : List ℕ). AreLabelsTo parents xs (j + 1)) (sym c.in_ok-push.ensures.items) more
