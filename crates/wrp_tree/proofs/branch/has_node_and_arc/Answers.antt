use Rattle.std.proofs.Common.{◌≡◌, Bool, ◌&&◌, true, false, ap, sym, ◌∙◌}
use Rattle.wrp_town.specs.Arcs.{is_legal}
use Rattle.wrp_rules.specs.Rules.{node_is_there}
use Rattle.wrp_tree.proofs.branch.has_node_and_arc.Goals as goal

pub returns-then-has_node : goal.returns-then-has_node
returns-then-has_node c = λ s is.
    let there : node_is_there s c.args.node ≡ true = sym (c.has_node.ensures c.args.town.now s is) ∙ c.if-has_node.true in
    c.is_legal.ensures ∙ ap (λ (t : Bool). t && is_legal c.args.town.now c.args.arc) (sym there)

pub returns-else-has_node : goal.returns-else-has_node
returns-else-has_node c = λ s is.
    let gone : node_is_there s c.args.node ≡ false = sym (c.has_node.ensures c.args.town.now s is) ∙ c.if-has_node.false in
    c.if-has_node.false ∙ ap (λ (t : Bool). t && is_legal c.args.town.now c.args.arc) (sym gone)
