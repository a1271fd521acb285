-- A row without an entry in the column stays.
use Rattle.std.proofs.Common.{◌≡◌, ℤ, pos, ap, sym, ◌∙◌, arith, List, ℕ}
use Rattle.std.specs.Int.{w128}
use Rattle.std.proofs.lemmas.Int.{to_z_pos}
use mir.Val.{to_z}
use Rattle.wrp_sums.specs.Sums.{coef_at}
use Rattle.wrp_tableau.specs.Rows.{equation}
use Rattle.wrp_tableau.proofs.Factoring.{cast}
use Rattle.wrp_tableau.proofs.Primitive.{stays}
use Rattle.wrp_tableau.proofs.change.change_of.Goals as goal

pub returns-then-entry_of-eq0-clause-ok : goal.returns-then-entry_of-eq0-clause-ok
returns-then-entry_of-eq0-clause-ok c n primitive by_primitive =
    let e = c.entry_of.ensures in
    let small = e.small in
    let zero : c.entry_of.result ≡ pos 0 =
    sym (cast c.entry_of.result (omega arith)) ∙ ap (to_z w128) c.if-entry_of-eq0.true ∙ to_z_pos w128 0 (omega arith) in
    let none : coef_at c.args.row.now.terms c.args.c ≡ pos 0 =
    ap (λ (l : List (ℕ × ℤ)). coef_at l c.args.c) (sym c.as_slice.ensures) ∙ sym e.value ∙ zero in
    sym (stays n c.args.c (equation c.args.by.now) (equation c.args.row.now) c.requires.pivot none primitive.factor)
