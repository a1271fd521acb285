use Rattle.std.proofs.Common.{drop, refl, sym, ◌∙◌}
use Rattle.std.specs.List.{list_all}
use Rattle.std.proofs.lemmas.Bool.{and_parts, and_from}
use Rattle.wrp_town.specs.Arcs.{is_legal}
use Rattle.wrp_rules.specs.declared.rule.Rule.TheVariants as kinds
use Rattle.wrp_rules.specs.declared.record.Record.TheVariants.{Point}
use Rattle.wrp_rules.specs.Rules.{node_is_there, rules_of}
use Rattle.wrp_tree.proofs.Judging.{two_kept}
use Rattle.wrp_tree.proofs.Wholes.{all_nodes}
use Rattle.wrp_tree.proofs.branch.judge_point.Goals as goal

pub is_open-requires : goal.is_open-requires
is_open-requires c =
    let s = c.requires.kept.0 in
    let is = c.requires.kept.1 in
    let both = and_parts (node_is_there s c.args.node) (list_all (λ q. is_legal c.args.town.now q.0) c.args.numbers.now) (sym (c.has_node_and_arcs.ensures s is) ∙ c.if-not-has_node_and_arcs.false) in
    (c.args.town.now, s, is, both.0)

pub returns-in-Some-clause-judged : goal.returns-in-Some-clause-judged
returns-in-Some-clause-judged c = λ s is.
    let both = and_parts (node_is_there s c.args.node) (list_all (λ q. is_legal c.args.town.now q.0) c.args.numbers.now) (sym (c.has_node_and_arcs.ensures s is) ∙ c.if-not-has_node_and_arcs.false) in
    let open_now = sym (c.is_open.ensures c.args.town.now s is) ∙ c.if-not-is_open.false in
    two_kept kinds.Range kinds.Closed _ _ (drop 2 (rules_of c.args.town.now s (Point c.args.node c.args.den c.args.numbers.now))) _ (and_from _ _ both.0 both.1) open_now
    (sym (c.broken_point-broken.ensures.rule s (all_nodes c.args.town.now s.nodes s.upper c.args.kept.now.index is.index c.requires.alone)) ∙ c.in-Some.is)

pub returns-in-None-clause-judged : goal.returns-in-None-clause-judged
returns-in-None-clause-judged c = λ s is.
    let both = and_parts (node_is_there s c.args.node) (list_all (λ q. is_legal c.args.town.now q.0) c.args.numbers.now) (sym (c.has_node_and_arcs.ensures s is) ∙ c.if-not-has_node_and_arcs.false) in
    let open_now = sym (c.is_open.ensures c.args.town.now s is) ∙ c.if-not-is_open.false in (
      two_kept kinds.Range kinds.Closed _ _ (drop 2 (rules_of c.args.town.now s (Point c.args.node c.args.den c.args.numbers.now))) _ (and_from _ _ both.0 both.1) open_now
          (sym (c.broken_point-broken.ensures.rule s (all_nodes c.args.town.now s.nodes s.upper c.args.kept.now.index is.index c.requires.alone)) ∙ c.in-None.is),
      refl,
    )
