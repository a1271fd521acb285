use Rattle.std.proofs.Common.{subst}
use Rattle.wrp_rules.specs.Nodes.{standing}
use Rattle.wrp_tree.specs.Indexes.{IsFirst, IsFirstOpen}
use Rattle.wrp_tree.specs.Trees.{TreeState, now}
use Rattle.wrp_tree.proofs.tree.Tree.open_node.Goals as goal

pub returns-in-Some : goal.returns-in-Some
returns-in-Some c =
    let town = c.self.inside.town.now in
    let s = standing town c.self.inside.kept.records.items in
    let is = c.self.invariant.kept_is in
    let first = subst (IsFirst town s.nodes s.upper) c.in-Some.is (c.first.ensures town s.nodes s.upper is.index) in
    subst (λ (t : TreeState). IsFirstOpen t.town (now t).nodes (now t).upper c.in-Some.entry.node) c.self.view_is first.0
