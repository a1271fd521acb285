use Rattle.std.proofs.Common.{ap, ◌∙◌}
use Rattle.wrp_rules.specs.Nodes.{standing, done}
use Rattle.wrp_tree.specs.Trees.{TreeState, now}
use Rattle.wrp_tree.proofs.tree.Tree.done.Goals as goal

pub returns : goal.returns
returns c =
    let town = c.self.inside.town.now in
    let s = standing town c.self.inside.kept.records.items in
    let is = c.self.invariant.kept_is in
    c.done.ensures town s.nodes s.upper is.index ∙ ap (λ (t : TreeState). done (now t)) c.self.view_is
