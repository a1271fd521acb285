use Rattle.std.proofs.Common.{drop, sym, ◌∙◌}
use Rattle.std.proofs.lemmas.Bool.{and_parts}
use Rattle.wrp_rules.specs.declared.rule.Rule.TheVariants as kinds
use Rattle.wrp_rules.specs.declared.record.Record.TheVariants.{Empty}
use Rattle.wrp_rules.specs.Rules.{node_is_there, rows_are_there, rules_of}
use Rattle.wrp_tree.proofs.KindRules.{first_fails}
use Rattle.wrp_tree.proofs.Keeping.{below_count, named}
use Rattle.wrp_tree.proofs.closing.judge_empty.Goals as goal

pub returns-then-not-has_node_and_rows-clause-judged : goal.returns-then-not-has_node_and_rows-clause-judged
returns-then-not-has_node_and_rows-clause-judged c = λ s is.
    first_fails kinds.Range _ (drop 1 (rules_of c.args.town.now s (Empty c.args.node c.args.mult.now))) (sym (c.has_node_and_rows.ensures c.args.town.now s is) ∙ c.if-not-has_node_and_rows.true)

pub is_open-requires : goal.is_open-requires
is_open-requires c =
    let s = c.requires.kept.0 in
    let is = c.requires.kept.1 in
    let both = and_parts (node_is_there s c.args.node) (rows_are_there s c.args.mult.now) (sym (c.has_node_and_rows.ensures c.args.town.now s is) ∙ c.if-not-has_node_and_rows.false) in
    (c.args.town.now, s, is, both.0)

pub empty_at-requires-clause-there : goal.empty_at-requires-clause-there
empty_at-requires-clause-there c =
    let s = c.requires.kept.0 in
    let is = c.requires.kept.1 in
    let both = and_parts (node_is_there s c.args.node) (rows_are_there s c.args.mult.now) (sym (c.has_node_and_rows.ensures c.args.town.now s is) ∙ c.if-not-has_node_and_rows.false) in
    below_count c.args.town.now s c.args.kept.now is c.args.node both.0

pub empty_at-requires-clause-named : goal.empty_at-requires-clause-named
empty_at-requires-clause-named c =
    let s = c.requires.kept.0 in
    let is = c.requires.kept.1 in
    let both = and_parts (node_is_there s c.args.node) (rows_are_there s c.args.mult.now) (sym (c.has_node_and_rows.ensures c.args.town.now s is) ∙ c.if-not-has_node_and_rows.false) in
    named c.args.town.now s c.args.kept.now is c.args.mult.now both.1
