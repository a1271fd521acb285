use Rattle.std.proofs.Common.{FitsSigned, get_or, pos, rules, sym, ◌∙◌}
use Rattle.std.specs.Int.{w64}
use Rattle.std.proofs.lemmas.Int.{to_z-of_z}
use Rattle.std.proofs.lemmas.List.Sorted.{answers_always}
use Rattle.wrp_rows.proofs.Searched.{found, absent}
use Rattle.wrp_rows.proofs.table.coef_in.Goals as goal

pub returns-in-Ok : goal.returns-in-Ok
returns-in-Ok c =
    let equal = c.in-Ok.ensures.position (λ term. term.0) (answers_always _ _ _ (λ f a r g called. search rules)) in
    let fits : FitsSigned w64 (get_or c.args.terms.now c.in-Ok.at (0, pos 0)).1 = search rules in
    to_z-of_z w64 (get_or c.args.terms.now c.in-Ok.at (0, pos 0)).1 fits ∙ sym (found c.args.terms.now c.requires c.args.arc c.in-Ok.at c.in-Ok.ensures.bound equal)

pub returns-in-Err : goal.returns-in-Err
returns-in-Err c =
    let parted = c.in-Err.ensures.position (λ term. term.0) (answers_always _ _ _ (λ f a r g called. search rules)) in
    sym (absent c.args.terms.now c.requires c.args.arc c.in-Err.field-0 parted)
