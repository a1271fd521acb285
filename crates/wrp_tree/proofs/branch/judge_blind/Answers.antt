use Rattle.std.proofs.Common.{drop, sym, ◌∙◌}
use Rattle.wrp_rules.specs.declared.rule.Rule.TheVariants as kinds
use Rattle.wrp_rules.specs.declared.record.Record.TheVariants.{Blind}
use Rattle.wrp_rules.specs.Rules.{rules_of}
use Rattle.wrp_tree.proofs.KindRules.{first_fails}
use Rattle.wrp_tree.proofs.branch.judge_blind.Goals as goal

pub returns-then-not-has_node : goal.returns-then-not-has_node
returns-then-not-has_node c = record { judged = λ s is. first_fails kinds.Range _ (drop 1 (rules_of c.args.town.now s (Blind c.args.node))) (sym (c.has_node.ensures c.args.town.now s is) ∙ c.if-not-has_node.true) }

pub is_open-requires : goal.is_open-requires
is_open-requires c = (c.args.town.now, c.requires.kept.0, c.requires.kept.1, sym (c.has_node.ensures c.args.town.now c.requires.kept.0 c.requires.kept.1) ∙ c.if-not-has_node.false)
