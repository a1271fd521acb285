use Rattle.std.proofs.Common.{◌≡◌, true, Ok, ap, refl, sym, subst, ◌∙◌}
use Rattle.wrp_rules.specs.declared.rule.Rule.TheVariants as rules
use Rattle.wrp_rules.specs.Rows.{kc_row, is_chain}
use Rattle.wrp_rules.specs.Rules.{is_partition}
use Rattle.wrp_pool.specs.Cuts.{Gains}
use Rattle.wrp_check.proofs.KindRules.{three_kept}
use Rattle.wrp_check.proofs.CutTaken.{room_for_one, cut_taken}
use Rattle.wrp_check.proofs.cuts.take_kc.Goals as goal

pub returns-clause-tries : goal.returns-clause-tries
returns-clause-tries c = λ s is alone.
    let town = c.args.town.now in
    let last = c.args.last in
    let of = c.args.of.now in
    let items : c.as_slice.result.now ≡ of = c.as_slice.ensures.value ∙ c.in_ok-gather_numbers.ensures.items (ap Ok c.if-not-branch.false) in
    let sets : c.as_slice-sets.result.now ≡ of = c.as_slice-sets.ensures.value ∙ c.in_ok-gather_numbers.ensures.items (ap Ok c.if-not-branch.false) in
    let partition : is_partition town last of ≡ true = ap (is_partition town last) (sym items) ∙ sym c.is_partition.ensures ∙ c.if-not-is_partition.false in
    let chain : is_chain town last of ≡ true = ap (is_chain town last) (sym sets) ∙ sym c.in_ok-is_chain.ensures ∙ c.if-not-branch-2.false in (
      three_kept rules.Range rules.Cuts rules.Chain _ _ _ partition (room_for_one town s c.args.kept.now is c.if-kept-ge-CUT_LIMIT.false) chain,
      λ e. cut_taken town s _ (kc_row town last of) c.args.kept.now _ is alone refl refl refl refl refl
          (subst (λ xs. Gains town (kc_row town last xs) c.args.kept.now.pool c.push_kc.new.self) sets c.in_ok-push_kc.ensures) refl refl refl c.plain-kept.ensures,
    )
