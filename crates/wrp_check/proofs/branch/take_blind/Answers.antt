use Rattle.std.proofs.Common.{◌∙◌, [], ◌∷◌, None, refl}
use Rattle.wrp_rules.specs.declared.rule.Rule.TheVariants as rules
use Rattle.wrp_rules.specs.declared.record.Record.TheVariants.{Blind}
use Rattle.wrp_rules.specs.Rules.{node_is_open}
use Rattle.wrp_check.proofs.KindRules.{first_fails, second_fails}
use Rattle.wrp_check.proofs.Branching.{is_there, is_missing, opens, refused, rowless, two_kept}
use Rattle.wrp_check.proofs.branch.take_blind.Goals as goal

pub returns-then-node-len : goal.returns-then-node-len
returns-then-node-len c = λ s is alone.
    let town = c.args.town.now in
    let kept = c.args.kept.now in
    refused town s (Blind c.args.node) rules.Range kept
    (first_fails rules.Range _ ((rules.Closed, node_is_open town s c.args.node) ∷ []) (is_missing town s kept c.args.node _ is c.len.ensures c.if-node-len.true))

pub returns-then-not-is_open : goal.returns-then-not-is_open
returns-then-not-is_open c = λ s is alone.
    let town = c.args.town.now in
    let kept = c.args.kept.now in
    refused town s (Blind c.args.node) rules.Closed kept
    (second_fails rules.Range rules.Closed _ _ [] (is_there town s kept c.args.node _ is c.len.ensures c.if-node-len.false)
    (opens town s kept c.args.node _ is (c.is_open.ensures town s.nodes is.nodes) ∙ c.if-not-is_open.true))

pub returns : goal.returns
returns c = λ s is alone.
    let town = c.args.town.now in
    let kept = c.args.kept.now in (
      two_kept rules.Range rules.Closed _ _ [] None (is_there town s kept c.args.node _ is c.len.ensures c.if-node-len.false)
          (opens town s kept c.args.node _ is (c.is_open.ensures town s.nodes is.nodes) ∙ c.if-not-is_open.false) refl,
      λ e. rowless town s (Blind c.args.node) kept _ is alone refl refl refl refl is.nodes refl refl c.leading_to-kept.ensures,
    )
