use Rattle.std.proofs.Common.{◌≡◌, Bool, ◌&&◌, true, false, ap, sym, ◌∙◌}
use Rattle.wrp_rules.specs.Rules.{node_is_there, rows_are_there}
use Rattle.wrp_tree.proofs.kept.Kept.has_node_and_rows.Goals as goal

pub returns-then-has_node : goal.returns-then-has_node
returns-then-has_node c = λ town s is.
    let there : node_is_there s c.args.node ≡ true = sym (c.has_node.ensures town s is) ∙ c.if-has_node.true in
    c.has_rows.ensures town s is ∙ ap (λ (t : Bool). t && rows_are_there s c.args.mult.now) (sym there)

pub returns-else-has_node : goal.returns-else-has_node
returns-else-has_node c = λ town s is.
    let gone : node_is_there s c.args.node ≡ false = sym (c.has_node.ensures town s is) ∙ c.if-has_node.false in
    c.if-has_node.false ∙ ap (λ (t : Bool). t && rows_are_there s c.args.mult.now) (sym gone)
