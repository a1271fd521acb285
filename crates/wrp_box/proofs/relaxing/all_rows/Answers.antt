use Rattle.std.proofs.Common.{◌++◌, ◌∷◌, [], ℕ, List, ap, sym, ◌∙◌, arith}
use Rattle.wrp_town.proofs.Lists.{range_with_len-more}
use Rattle.wrp_box.proofs.relaxing.all_rows.Goals as goal

pub loop-row-preserved : goal.loop-row-preserved
loop-row-preserved c =
    let row = c.loop-row.row in
    c.in_ok-push.ensures.items
    ∙ ap (λ (xs : List ℕ). xs ++ row ∷ []) c.loop-row.invariant
    ∙ sym (range_with_len-more 0 row row (omega arith))
