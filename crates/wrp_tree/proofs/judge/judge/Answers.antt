use Rattle.std.proofs.Common.{◌≡◌, ℕ, List, Result, refl, ap, sym, subst, ◌∙◌}
use Rattle.wrp_rules.specs.declared.record.Record.{Record}
use Rattle.wrp_rules.specs.declared.record.Record.TheVariants.{Labels}
use Rattle.wrp_rules.specs.declared.rule.Rule.{Rule}
use Rattle.wrp_tree.specs.declared.plan.Plan.{Plan}
use Rattle.wrp_tree.specs.Plans.{Judged, plain_unless}
use Rattle.wrp_tree.proofs.Judging.{plain_judged}
use Rattle.wrp_tree.proofs.judge.judge.Goals as goal

pub returns-in-Labels-clause-judged : goal.returns-in-Labels-clause-judged
returns-in-Labels-clause-judged c = λ s is.
    let town = c.args.town.now in
    let labels = c.as_slice-in-Labels.result.now in
    let streets = c.as_slice-in-Labels-2.result.now in
    let same : c.args.item.now ≡ Labels labels streets = c.in-Labels.is ∙ ap (λ (xs : List ℕ). Labels xs c.in-Labels.streets) (sym c.as_slice-in-Labels.ensures) ∙ ap (λ (xs : List ℕ). Labels labels xs) (sym c.as_slice-in-Labels-2.ensures) in
    subst (λ (r : Result Plan Rule). Judged town s c.args.item.now r) (sym c.unless-in-Labels.ensures)
    (subst (λ (i : Record). Judged town s i (plain_unless c.broken_labels.result)) (sym same)
    (plain_judged town s (Labels labels streets) c.broken_labels.result (c.broken_labels.ensures s) refl))
