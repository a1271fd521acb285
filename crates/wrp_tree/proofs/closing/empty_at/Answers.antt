use Rattle.std.proofs.Common.{◌++◌, FitsSigned, rules, ap, sym, subst, ◌∙◌}
use Rattle.std.specs.Int.{w128}
use Rattle.std.proofs.lemmas.Int.{to_z-of_z}
use Rattle.wrp_town.specs.declared.town.Town.{Town}
use Rattle.wrp_rules.specs.Nodes.{Node, node_at, empty_value}
use Rattle.wrp_rows.specs.Points.{AreBoundsOf}
use Rattle.wrp_tree.proofs.Keeping.{in_all, same_in_all}
use Rattle.wrp_tree.proofs.closing.empty_at.Goals as goal

pub put_box-requires-clause-there : goal.put_box-requires-clause-there
put_box-requires-clause-there c = in_all c.args.town.now c.requires.kept.0 c.args.kept.now c.requires.kept.1 c.args.node c.requires.there

pub returns-clause-value : goal.returns-clause-value
returns-clause-value c = λ s is.
    let town = c.args.town.now in
    let node = c.args.node in
    let bounds = c.put_box.new.into in
    let fits : FitsSigned w128 c.empty_value.result = search rules in
    let own : AreBoundsOf town (node_at town s node) bounds = subst (λ (n : Node). AreBoundsOf town n bounds) (same_in_all town s c.args.kept.now is node c.requires.there) (c.put_box.ensures.of_node (s.nodes ++ is.index.spare) is.index.whole) in
    to_z-of_z w128 c.empty_value.result fits
    ∙ c.empty_value.ensures s (node_at town s node) is.rows (subst (λ (t : Town). AreBoundsOf t (node_at town s node) bounds) (sym is.rows_town) own)
    ∙ ap (λ (t : Town). empty_value t s.rows (node_at town s node) c.args.mult.now) is.rows_town
