use Rattle.std.proofs.Common.{◌<◌, length, ap, sym, subst, ◌∙◌, arith}
use Rattle.wrp_rules.specs.Nodes.{standing, is_open, node_at}
use Rattle.wrp_tree.specs.Trees.{TreeState, now}
use Rattle.wrp_tree.proofs.tree.Tree.is_open.Goals as goal

pub is_open-requires-clause-there : goal.is_open-requires-clause-there
is_open-requires-clause-there c =
    let town = c.self.inside.town.now in
    let s = standing town c.self.inside.kept.records.items in
    let is = c.self.invariant.kept_is in
    let there = subst (λ (t : TreeState). c.args.node < length (now t).nodes) (sym c.self.view_is) c.requires in
    omega (arith, there, is.index.count)

pub returns : goal.returns
returns c =
    let town = c.self.inside.town.now in
    let s = standing town c.self.inside.kept.records.items in
    let is = c.self.invariant.kept_is in
    c.is_open.ensures town s.nodes s.upper is.index
    ∙ ap (λ (t : TreeState). is_open (now t).upper (node_at t.town (now t) c.args.node)) c.self.view_is
