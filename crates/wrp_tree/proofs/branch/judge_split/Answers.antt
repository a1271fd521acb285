use Rattle.std.proofs.Common.{sym, ◌∙◌}
use Rattle.std.proofs.lemmas.Bool.{and_parts}
use Rattle.wrp_town.specs.Arcs.{is_legal}
use Rattle.wrp_rules.specs.Rules.{node_is_there}
use Rattle.wrp_tree.proofs.branch.judge_split.Goals as goal

pub is_open-requires : goal.is_open-requires
is_open-requires c =
    let s = c.requires.kept.0 in
    let is = c.requires.kept.1 in
    let both = and_parts (node_is_there s c.args.node) (is_legal c.args.town.now c.args.arc) (sym (c.has_node_and_arc.ensures s is) ∙ c.if-not-has_node_and_arc.false) in
    (c.args.town.now, s, is, both.0)
