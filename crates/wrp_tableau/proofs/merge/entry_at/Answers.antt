use Rattle.std.proofs.Common.{ℕ, pos, cond, ◌==◌, get_or, ap, ◌∙◌, FitsSigned, rules, ◌+ℤ◌, take}
use Rattle.std.specs.Int.{w128}
use Rattle.std.proofs.lemmas.Int.{to_z-of_z}
use Rattle.wrp_sums.specs.Sums.{coef_at}
use Rattle.wrp_sums.proofs.SparseRows.{coef_at_more}
use Rattle.wrp_tableau.proofs.merge.entry_at.Goals as goal

pub returns-then-terms-at-clause-coef : goal.returns-then-terms-at-clause-coef
returns-then-terms-at-clause-coef c a =
    let fits : FitsSigned w128 (get_or c.args.terms.now c.args.at (0, pos 0)).1 = search rules in
    rw (to_z-of_z w128 (get_or c.args.terms.now c.args.at (0, pos 0)).1 fits)
    (coef_at_more c.args.terms.now a c.args.at (0, pos 0) c.if-at-terms.true
    ∙ ap (λ (n : ℕ). coef_at (take c.args.at c.args.terms.now) a +ℤ cond (n == a) (get_or c.args.terms.now c.args.at (0, pos 0)).1 (pos 0)) c.if-terms-at.true)
