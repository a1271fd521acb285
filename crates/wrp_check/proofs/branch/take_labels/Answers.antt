use Rattle.std.proofs.Common.{◌∙◌, ℕ, List, Ok, drop, refl, sym, ap}
use Rattle.wrp_rules.specs.declared.rule.Rule.TheVariants as rules
use Rattle.wrp_rules.specs.declared.record.Record.TheVariants.{Labels}
use Rattle.wrp_rules.specs.Rules.{rules_of, first_broken}
use Rattle.wrp_check.proofs.KindRules.{first_fails}
use Rattle.wrp_check.proofs.Branching.{refused, rowless, many_labels, none_or_some}
use Rattle.wrp_check.proofs.branch.take_labels.Goals as goal

pub returns-then-not-branch-clause-tries : goal.returns-then-not-branch-clause-tries
returns-then-not-branch-clause-tries c = λ s is alone.
    let town = c.args.town.now in
    let labels = c.args.labels.now in
    let streets = c.args.streets.now in
    refused town s (Labels labels streets) rules.Range _
    (first_fails rules.Range _ (drop 1 (rules_of town s (Labels labels streets))) (many_labels town labels streets _ c.len.ensures (sym c.in_ok-gather_numbers.ensures.few ∙ c.if-not-branch.true)))

pub returns-then-is_none-clause-tries : goal.returns-then-is_none-clause-tries
returns-then-is_none-clause-tries c = λ s is alone.
    let town = c.args.town.now in
    let labels = c.args.labels.now in
    let streets = c.args.streets.now in
    let first = c.as_slice.ensures.value ∙ c.in_ok-gather_numbers.ensures.items (ap Ok c.if-not-branch.false) in
    let second = c.as_slice-2.ensures.value ∙ c.in_ok-gather_all.ensures in (
      ap (λ (xs : List ℕ). first_broken (rules_of town s (Labels xs streets))) (sym first) ∙ ap (λ (xs : List ℕ). first_broken (rules_of town s (Labels c.as_slice.result.now xs))) (sym second) ∙ sym (c.broken_labels-broken.ensures s),
      λ e. rowless town s (Labels labels streets) c.args.kept.now _ is alone refl refl refl refl is.nodes refl refl c.labelled-kept.ensures,
    )

pub returns-else-is_none-clause-tries : goal.returns-else-is_none-clause-tries
returns-else-is_none-clause-tries c = λ s is alone.
    let town = c.args.town.now in
    let labels = c.args.labels.now in
    let streets = c.args.streets.now in
    let first = c.as_slice.ensures.value ∙ c.in_ok-gather_numbers.ensures.items (ap Ok c.if-not-branch.false) in
    let second = c.as_slice-2.ensures.value ∙ c.in_ok-gather_all.ensures in (
      ap (λ (xs : List ℕ). first_broken (rules_of town s (Labels xs streets))) (sym first) ∙ ap (λ (xs : List ℕ). first_broken (rules_of town s (Labels c.as_slice.result.now xs))) (sym second) ∙ sym (c.broken_labels-broken.ensures s),
      λ e. none_or_some c.broken_labels-broken.result e c.if-is_none.ensures,
    )
