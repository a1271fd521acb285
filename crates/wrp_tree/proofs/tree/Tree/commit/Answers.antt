use Rattle.std.proofs.Common.{sym, subst, arith}
use Rattle.wrp_rules.specs.Nodes.{standing}
use Rattle.wrp_tree.specs.Trees.{IsPrepared}
use Rattle.wrp_tree.proofs.Growing.{ready_for, few_made, kept_pushed, tree_more}
use Rattle.wrp_tree.proofs.tree.Tree.commit.Goals as goal

pub make-requires : goal.make-requires
make-requires c =
    let town = c.self.inside.town.now in
    let s = standing town c.self.inside.kept.records.items in
    let is = c.self.invariant.kept_is in
    let prepared = subst (IsPrepared c.args.item) (sym c.self.view_is) c.requires in
    let ready = ready_for town c.self.inside.kept c.self.inside.desk c.self.inside.ready c.args.item c.unwrap_or-plan.result c.self.invariant prepared c.unwrap_or-plan.ensures in
    (town, s, ready)

pub push-requires-clause-few : goal.push-requires-clause-few
push-requires-clause-few c =
    let town = c.self.inside.town.now in
    let s = standing town c.self.inside.kept.records.items in
    let is = c.self.invariant.kept_is in
    let prepared = subst (IsPrepared c.args.item) (sym c.self.view_is) c.requires in
    let ready = ready_for town c.self.inside.kept c.self.inside.desk c.self.inside.ready c.args.item c.unwrap_or-plan.result c.self.invariant prepared c.unwrap_or-plan.ensures in
    let few = few_made town s c.args.item c.self.inside.kept c.make.new.self is (c.make.ensures town s ready) in
    omega (arith, few)

pub invariant_of-self : goal.invariant_of-self
invariant_of-self c =
    let town = c.self.inside.town.now in
    let s = standing town c.self.inside.kept.records.items in
    let is = c.self.invariant.kept_is in
    let prepared = subst (IsPrepared c.args.item) (sym c.self.view_is) c.requires in
    let ready = ready_for town c.self.inside.kept c.self.inside.desk c.self.inside.ready c.args.item c.unwrap_or-plan.result c.self.invariant prepared c.unwrap_or-plan.ensures in
    tree_more town c.self.inside.kept c.push.new.self c.self.inside.desk c.self.inside.ready c.args.item c.self.invariant prepared.valid
    (kept_pushed town s c.args.item c.self.inside.kept c.make.new.self c.push.new.self is (c.make.ensures town s ready) c.push.ensures.others c.push.ensures.records c.push.ensures.blind c.push.ensures.labelled)
