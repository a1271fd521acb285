use Rattle.std.proofs.Common.{◌++◌, FitsSigned, rules, length, ap, sym, subst, ◌∙◌, arith}
use Rattle.std.specs.Int.{w128}
use Rattle.std.proofs.lemmas.Int.{to_z-of_z}
use Rattle.std.proofs.lemmas.List.{with_items_is}
use Rattle.wrp_town.specs.declared.town.Town.{Town}
use Rattle.wrp_rules.specs.Nodes.{Node, node_at, bound_value}
use Rattle.wrp_rows.specs.Points.{AreBoundsOf}
use Rattle.wrp_tree.proofs.Keeping.{in_all, same_in_all}
use Rattle.wrp_tree.proofs.closing.bound_at.Goals as goal

pub put_box-requires-clause-there : goal.put_box-requires-clause-there
put_box-requires-clause-there c = in_all c.args.town.now c.requires.kept.0 c.args.kept.now c.requires.kept.1 c.args.node c.requires.there

pub returns-clause-desk : goal.returns-clause-desk
returns-clause-desk c = record {
  boxes = c.requires.desk.boxes;
  tables = c.requires.desk.tables;
  bounds = c.put_box.ensures.fit;
  sums = ap length (with_items_is c.args.desk.now.sums c.bound_of.new.scratch (omega arith)) ∙ omega arith;
  marks = c.requires.desk.marks;
}

pub returns-clause-value : goal.returns-clause-value
returns-clause-value c = λ s is.
    let town = c.args.town.now in
    let node = c.args.node in
    let bounds = c.put_box.new.into in
    let fits : FitsSigned w128 c.bound_of.result = search rules in
    let own : AreBoundsOf town (node_at town s node) bounds = subst (λ (n : Node). AreBoundsOf town n bounds) (same_in_all town s c.args.kept.now is node c.requires.there) (c.put_box.ensures.of_node (s.nodes ++ is.index.spare) is.index.whole) in
    to_z-of_z w128 c.bound_of.result fits
    ∙ c.bound_of.ensures s (node_at town s node) is.rows (subst (λ (t : Town). AreBoundsOf t (node_at town s node) bounds) (sym is.rows_town) own)
    ∙ ap (λ (t : Town). bound_value t s.rows (node_at town s node) c.args.den c.args.mult.now) is.rows_town
