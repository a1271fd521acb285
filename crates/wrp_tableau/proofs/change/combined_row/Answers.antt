use Rattle.std.proofs.Common.{ℕ, ◌^◌, ℤ, List, ap, subst, ◌∙◌}
use Rattle.std.specs.Int.{w128}
use mir.Val.{to_z, of_z}
use Rattle.wrp_sums.specs.Sums.{coef_at}
use Rattle.wrp_tableau.specs.Equations.{reduced}
use Rattle.wrp_tableau.specs.Systems.{IsWideRow}
use Rattle.wrp_tableau.specs.Rows.{row_without}
use Rattle.wrp_tableau.proofs.Without.{combination, has_term}
use Rattle.wrp_tableau.proofs.change.combined_row.Goals as goal

pub reduced_row-requires-clause-some : goal.reduced_row-requires-clause-some
reduced_row-requires-clause-some c =
    let made = combination c.args.c c.args.row.now.terms c.args.by.now.terms c.args.row.now.right c.args.by.now.right c.in_ok-terms.terms.items c.entry_of-pivot.result c.entry_of-entry.result c.abs-size.result c.turned-other.result c.weighted-right.result
    c.requires.row_stored.right_small c.requires.by_stored.right_small
    (c.entry_of-pivot.ensures.value ∙ ap (λ (l : List (ℕ × ℤ)). coef_at l c.args.c) c.as_slice.ensures) c.entry_of-pivot.ensures.small
    (c.entry_of-entry.ensures.value ∙ ap (λ (l : List (ℕ × ℤ)). coef_at l c.args.c) c.as_slice-2.ensures) c.entry_of-entry.ensures.small
    c.abs-size.ensures.value c.turned-other.ensures.value c.turned-other.ensures.small
    (λ j. rw (c.as_slice-3.ensures, c.as_slice-4.ensures) at (c.in_ok-terms.ensures.coefs j))
    c.weighted-right.ensures.value c.weighted-right.ensures.small (2 ^ 121) c.in_ok-terms.ensures.sparse in
    has_term c.in_ok-terms.terms.items (to_z w128 (of_z w128 c.weighted-right.result)) (row_without c.args.c c.args.by.now c.args.row.now) made.is c.requires.some

pub returns-in_default-clause-wide : goal.returns-in_default-clause-wide
returns-in_default-clause-wide c none n x_primitive y_primitive =
    let made = combination c.args.c c.args.row.now.terms c.args.by.now.terms c.args.row.now.right c.args.by.now.right c.in_ok-terms.terms.items c.entry_of-pivot.result c.entry_of-entry.result c.abs-size.result c.turned-other.result c.weighted-right.result
    c.requires.row_stored.right_small c.requires.by_stored.right_small
    (c.entry_of-pivot.ensures.value ∙ ap (λ (l : List (ℕ × ℤ)). coef_at l c.args.c) c.as_slice.ensures) c.entry_of-pivot.ensures.small
    (c.entry_of-entry.ensures.value ∙ ap (λ (l : List (ℕ × ℤ)). coef_at l c.args.c) c.as_slice-2.ensures) c.entry_of-entry.ensures.small
    c.abs-size.ensures.value c.turned-other.ensures.value c.turned-other.ensures.small
    (λ j. rw (c.as_slice-3.ensures, c.as_slice-4.ensures) at (c.in_ok-terms.ensures.coefs j))
    c.weighted-right.ensures.value c.weighted-right.ensures.small (2 ^ 121) c.in_ok-terms.ensures.sparse in
    subst (λ e. IsWideRow (reduced n e)) made.is (c.reduced_row.ensures.wide c.in_default.is n (made.within n x_primitive.below y_primitive.below))

pub returns-clause-ok : goal.returns-clause-ok
returns-clause-ok c n x_primitive y_primitive =
    let made = combination c.args.c c.args.row.now.terms c.args.by.now.terms c.args.row.now.right c.args.by.now.right c.in_ok-terms.terms.items c.entry_of-pivot.result c.entry_of-entry.result c.abs-size.result c.turned-other.result c.weighted-right.result
    c.requires.row_stored.right_small c.requires.by_stored.right_small
    (c.entry_of-pivot.ensures.value ∙ ap (λ (l : List (ℕ × ℤ)). coef_at l c.args.c) c.as_slice.ensures) c.entry_of-pivot.ensures.small
    (c.entry_of-entry.ensures.value ∙ ap (λ (l : List (ℕ × ℤ)). coef_at l c.args.c) c.as_slice-2.ensures) c.entry_of-entry.ensures.small
    c.abs-size.ensures.value c.turned-other.ensures.value c.turned-other.ensures.small
    (λ j. rw (c.as_slice-3.ensures, c.as_slice-4.ensures) at (c.in_ok-terms.ensures.coefs j))
    c.weighted-right.ensures.value c.weighted-right.ensures.small (2 ^ 121) c.in_ok-terms.ensures.sparse in
    let found = rw c.in-Some.is at c.reduced_row.ensures in
    found.ok n (made.within n x_primitive.below y_primitive.below) ∙ ap (reduced n) made.is
