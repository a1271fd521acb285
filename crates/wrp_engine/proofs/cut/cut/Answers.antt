use Rattle.std.proofs.Common.{ℕ, not, ◌==◌, ap, refl, sym, ◌∙◌, subst}
use Rattle.wrp_keep.specs.Keeps.{KeepState}
use Rattle.wrp_engine.specs.declared.left.Left.{Left}
use Rattle.wrp_engine.specs.declared.left.RoundEnd.TheVariants.{Last}
use Rattle.wrp_engine.specs.Searches.{IsOpenAt}
use Rattle.wrp_engine.specs.Additions.{AddsOnlyCuts}
use Rattle.wrp_engine.specs.Sights.{EndsOffering, EndsCutting}
use Rattle.wrp_engine.proofs.Cutting.{told_of_tree, still_open, cuts_of_open, none_joined, shut_before}
use Rattle.wrp_engine.proofs.cut.cut.Goals as goal
use Rattle.wrp_engine.proofs.cut.cut.Goals.{else-is_open-via-then-is_open+in_ok-offer_all+else-branch, else-is_open-via-else-is_open}

pub offer_all-requires-clause-cuts : goal.offer_all-requires-clause-cuts
offer_all-requires-clause-cuts g c =
    let old = c.args.keep.now in
    cuts_of_open old old c.args.node c.args.round c.args.point c.args.cuts.items refl c.requires.seen c.requires.told (record {
      there = c.requires.there;
      told = told_of_tree old c.tree.result.now.town c.tree.result.now.records c.args.node c.is_open.result c.tree.ensures.town c.tree.ensures.records c.is_open.ensures ∙ c.if-is_open.true;
    })

pub returns-then-branch-clause-ends : goal.returns-then-branch-clause-ends
returns-then-branch-clause-ends g c =
    let old = c.args.keep.now in
    let new = c.offer_all.new.keep in
    let town = c.in_ok-offer_all.ensures.leaves.0.town in
    let ends : AddsOnlyCuts 1 old new = subst (EndsOffering old new c.args.cuts.items) c.if-branch.true c.in_ok-offer_all.ensures.ends in
    let opened : IsOpenAt old c.args.node = record {
      there = c.requires.there;
      told = told_of_tree old c.tree.result.now.town c.tree.result.now.records c.args.node c.is_open.result c.tree.ensures.town c.tree.ensures.records c.is_open.ensures ∙ c.if-is_open.true;
    } in
    (ends, still_open 1 old new c.args.node town ends opened)

pub returns-clause-ends : goal.returns-clause-ends
returns-clause-ends g c =
    let old = c.args.keep.now in
    let told = told_of_tree old c.tree.result.now.town c.tree.result.now.records c.args.node c.is_open.result c.tree.ensures.town c.tree.ensures.records c.is_open.ensures in
    let left : Left = record { point = c.args.point; full = not c.is_empty-full.result } in
    elim c.else-is_open.branch [
      | else-is_open-via-then-is_open+in_ok-offer_all+else-branch w ↦
          let new = w.offer_all.new.keep in
          let opened : IsOpenAt old c.args.node = record { there = c.requires.there; told = told ∙ w.if-is_open.true } in
          subst (λ (k : KeepState). EndsCutting old k c.args.node c.args.round (Last left)) (sym w.keep-is)
          (none_joined old new c.args.node c.args.round c.args.point c.args.cuts.items w.in_ok-offer_all.ensures.leaves.0.town c.requires.seen c.requires.told
          c.is_empty-full.result (c.is_empty-full.ensures ∙ ap (λ (n : ℕ). n == 0) c.args.cuts.ok.0) opened
          (subst (EndsOffering old new c.args.cuts.items) w.if-branch.false w.in_ok-offer_all.ensures.ends))
      | else-is_open-via-else-is_open w ↦
          subst (λ (k : KeepState). EndsCutting old k c.args.node c.args.round (Last left)) (sym w.keep-is)
          (shut_before old old c.args.node c.args.round c.args.point c.args.cuts.items refl c.requires.seen c.requires.told left (told ∙ w.if-is_open.false) refl)
    ]
