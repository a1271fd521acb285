use Rattle.std.proofs.Common.{◌<◌, length, sym, subst, arith}
use Rattle.wrp_rules.specs.Nodes.{standing}
use Rattle.wrp_tree.specs.Trees.{TreeState, now}
use Rattle.wrp_tree.proofs.Keeping.{in_all}
use Rattle.wrp_tree.proofs.tree.Tree.box_of.Goals as goal

pub put_box-requires-clause-there : goal.put_box-requires-clause-there
put_box-requires-clause-there c =
    let town = c.self.inside.town.now in
    let s = standing town c.self.inside.kept.records.items in
    let is = c.self.invariant.kept_is in
    let there = subst (λ (t : TreeState). c.args.node < length (now t).nodes) (sym c.self.view_is) c.requires.there in
    in_all town s c.self.inside.kept is c.args.node (omega (arith, there, is.index.count))
