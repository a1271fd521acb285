use Rattle.std.proofs.Common.{ℕ, ℤ, List, FitsSigned, rules, ap, ◌∙◌}
use Rattle.std.specs.Int.{w64}
use Rattle.std.proofs.lemmas.Int.{to_z-of_z}
use Rattle.wrp_sums.specs.Sums.{coef_at}
use Rattle.wrp_rules.specs.Rows.{row_at}
use Rattle.wrp_rows.proofs.Kept.{coef_at_terms}
use Rattle.wrp_rows.proofs.rows.Rows.coef.Goals as goal

pub returns-clause-definition : goal.returns-clause-definition
returns-clause-definition c = λ s has.
    let fits : FitsSigned w64 c.coef_in.result = search rules in
    to_z-of_z w64 c.coef_in.result fits
    ∙ c.coef_in.ensures
    ∙ ap (λ (terms : List (ℕ × ℤ)). coef_at terms c.args.arc) (c.terms.ensures.definition s has)
    ∙ coef_at_terms c.args.self.now.town (row_at s.rows c.args.row).coef c.args.arc
