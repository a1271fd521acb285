use Rattle.std.proofs.Common.{◌≡◌, ◌++◌, drop, refl, sym, subst, ◌∙◌, arith}
use Rattle.std.proofs.lemmas.List.{with_items_is}
use Rattle.wrp_rules.specs.declared.rule.Rule.TheVariants as kinds
use Rattle.wrp_rules.specs.declared.record.Record.TheVariants.{Apart}
use Rattle.wrp_rules.specs.Nodes.{Node, node_at}
use Rattle.wrp_rules.specs.Rules.{rules_of}
use Rattle.wrp_rows.specs.Marks.{AreMarks}
use Rattle.wrp_rows.specs.Points.{AreBoundsOf}
use Rattle.wrp_tree.proofs.KindRules.{third_fails}
use Rattle.wrp_tree.proofs.Judging.{four_kept, fourth_fails}
use Rattle.wrp_tree.proofs.Keeping.{below_count, in_all, same_in_all}
use Rattle.wrp_tree.proofs.Shutting.{are_there}
use Rattle.wrp_tree.proofs.apart.judge_apart.Goals as goal

pub is_open-requires : goal.is_open-requires
is_open-requires c =
    let s = c.requires.kept.0 in
    let is = c.requires.kept.1 in
    let there = are_there c.args.town.now s c.args.node c.args.r1 c.args.r2 c.args.set.now (sym (c.is_in_range.ensures s is) ∙ c.if-not-is_in_range.false) in
    (c.args.town.now, s, is, there.node_is)

pub put_box-requires-clause-there : goal.put_box-requires-clause-there
put_box-requires-clause-there c =
    let s = c.requires.kept.0 in
    let is = c.requires.kept.1 in
    let there = are_there c.args.town.now s c.args.node c.args.r1 c.args.r2 c.args.set.now (sym (c.is_in_range.ensures s is) ∙ c.if-not-is_in_range.false) in
    in_all c.args.town.now s c.args.kept.now is c.args.node (below_count c.args.town.now s c.args.kept.now is c.args.node there.node_is)

pub returns-then-not-is_parted-clause-judged : goal.returns-then-not-is_parted-clause-judged
returns-then-not-is_parted-clause-judged c = λ s is.
    let there = are_there c.args.town.now s c.args.node c.args.r1 c.args.r2 c.args.set.now (sym (c.is_in_range.ensures s is) ∙ c.if-not-is_in_range.false) in
    let range = sym (c.is_in_range.ensures s is) ∙ c.if-not-is_in_range.false in
    let open_now = sym (c.is_open.ensures c.args.town.now s is) ∙ c.if-not-is_open.false in
    let same : c.deref.result.now ≡ c.mark.new.marks = c.deref.ensures.value ∙ with_items_is c.args.desk.now.marks c.mark.new.marks (omega arith) in
    let marked = subst (AreMarks c.args.set.now) (sym same) c.mark.ensures in
    let others = rules_of c.args.town.now s (Apart c.args.node c.args.r1 c.args.r2 c.args.set.now) in
    third_fails kinds.Range kinds.Closed kinds.Cross _ _ _ (drop 3 others) range open_now (sym (c.is_parted.ensures c.args.set.now marked) ∙ c.if-not-is_parted.true)

pub returns-then-not-is_shut-clause-judged : goal.returns-then-not-is_shut-clause-judged
returns-then-not-is_shut-clause-judged c = λ s is.
    let there = are_there c.args.town.now s c.args.node c.args.r1 c.args.r2 c.args.set.now (sym (c.is_in_range.ensures s is) ∙ c.if-not-is_in_range.false) in
    let range = sym (c.is_in_range.ensures s is) ∙ c.if-not-is_in_range.false in
    let open_now = sym (c.is_open.ensures c.args.town.now s is) ∙ c.if-not-is_open.false in
    let same : c.deref.result.now ≡ c.mark.new.marks = c.deref.ensures.value ∙ with_items_is c.args.desk.now.marks c.mark.new.marks (omega arith) in
    let marked = subst (AreMarks c.args.set.now) (sym same) c.mark.ensures in
    let others = rules_of c.args.town.now s (Apart c.args.node c.args.r1 c.args.r2 c.args.set.now) in
    let below = below_count c.args.town.now s c.args.kept.now is c.args.node there.node_is in
    let own = subst (λ (n : Node). AreBoundsOf c.args.town.now n c.put_box.new.into) (same_in_all c.args.town.now s c.args.kept.now is c.args.node below) (c.put_box.ensures.of_node (s.nodes ++ is.index.spare) is.index.whole) in
    let cross = sym (c.is_parted.ensures c.args.set.now marked) ∙ c.if-not-is_parted.false in
    let marked_still = subst (AreMarks c.args.set.now) (sym (c.deref-2.ensures.value ∙ with_items_is c.args.desk.now.marks c.mark.new.marks (omega arith))) c.mark.ensures in
    let shut = c.is_shut.ensures c.args.set.now (node_at c.args.town.now s c.args.node) marked_still own in
    fourth_fails kinds.Range kinds.Closed kinds.Cross kinds.Leak _ _ _ _ range open_now cross (sym shut ∙ c.if-not-is_shut.true)

pub returns-clause-judged : goal.returns-clause-judged
returns-clause-judged c = λ s is.
    let there = are_there c.args.town.now s c.args.node c.args.r1 c.args.r2 c.args.set.now (sym (c.is_in_range.ensures s is) ∙ c.if-not-is_in_range.false) in
    let range = sym (c.is_in_range.ensures s is) ∙ c.if-not-is_in_range.false in
    let open_now = sym (c.is_open.ensures c.args.town.now s is) ∙ c.if-not-is_open.false in
    let same : c.deref.result.now ≡ c.mark.new.marks = c.deref.ensures.value ∙ with_items_is c.args.desk.now.marks c.mark.new.marks (omega arith) in
    let marked = subst (AreMarks c.args.set.now) (sym same) c.mark.ensures in
    let others = rules_of c.args.town.now s (Apart c.args.node c.args.r1 c.args.r2 c.args.set.now) in
    let below = below_count c.args.town.now s c.args.kept.now is c.args.node there.node_is in
    let own = subst (λ (n : Node). AreBoundsOf c.args.town.now n c.put_box.new.into) (same_in_all c.args.town.now s c.args.kept.now is c.args.node below) (c.put_box.ensures.of_node (s.nodes ++ is.index.spare) is.index.whole) in
    let cross = sym (c.is_parted.ensures c.args.set.now marked) ∙ c.if-not-is_parted.false in
    let marked_still = subst (AreMarks c.args.set.now) (sym (c.deref-2.ensures.value ∙ with_items_is c.args.desk.now.marks c.mark.new.marks (omega arith))) c.mark.ensures in
    let shut = c.is_shut.ensures c.args.set.now (node_at c.args.town.now s c.args.node) marked_still own in
    (four_kept kinds.Range kinds.Closed kinds.Cross kinds.Leak _ _ _ _ range open_now cross (sym shut ∙ c.if-not-is_shut.false), refl)
