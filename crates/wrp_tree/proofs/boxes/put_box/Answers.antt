use Rattle.std.proofs.Common.{◌≡◌, ◌<◌, ℕ, ap, sym, ◌∙◌, subst, arith}
use Rattle.wrp_nodes.specs.declared.kept.KeptNode.{KeptNode}
use Rattle.wrp_nodes.specs.Kept.{kept_at}
use Rattle.wrp_rows.specs.declared.point.Bounds.{Bounds}
use Rattle.wrp_tree.specs.Boxes.{cut_bounds}
use Rattle.wrp_tree.proofs.Boxing.{IsOnTheWay, one_further, sets_out, arrives_box, arrives_bounds}
use Rattle.wrp_tree.proofs.boxes.put_box.Goals as goal

pub loop-at-init : goal.loop-at-init
loop-at-init c = record {
  there = c.requires.there;
  way = sets_out c.args.town.now c.args.nodes.now c.args.node c.widen.new.into c.requires.there c.widen.ensures;
}

pub loop-at-preserved : goal.loop-at-preserved
loop-at-preserved c =
    let town = c.args.town.now in
    let kept = c.args.nodes.now in
    let at = c.loop-at.at in
    let some : 0 < at = omega arith in
    let own : c.kept-kept.result ≡ kept_at kept at = c.kept-kept.ensures in
    let inside = c.requires.linked.arc at some c.loop-at.invariant.there in
    let next = one_further town kept c.args.node at c.loop-at.into some c.loop-at.invariant.there inside c.loop-at.invariant.way in
    let is : c.cut.new.into ≡ cut_bounds (kept_at kept at).cut (kept_at kept at).arc c.loop-at.into = c.cut.ensures ∙ ap (λ (k : KeptNode). cut_bounds k.cut k.arc c.loop-at.into) own in
    let parent : c.kept-kept.result.parent ≡ (kept_at kept at).parent = ap (λ (k : KeptNode). k.parent) own in
    record {
      there = omega (arith, parent, c.requires.linked.parent at some c.loop-at.invariant.there, c.loop-at.invariant.there);
      way = subst (λ (p : ℕ). IsOnTheWay town kept c.args.node p c.cut.new.into) (sym parent) (subst (λ (b : Bounds). IsOnTheWay town kept c.args.node (kept_at kept at).parent b) (sym is) next);
    }

pub returns-clause-bounds : goal.returns-clause-bounds
returns-clause-bounds c = λ stand has.
    let way = subst (λ (n : ℕ). IsOnTheWay c.args.town.now c.args.nodes.now c.args.node n c.loop-at.into) (omega arith) c.loop-at.invariant.way in
    arrives_bounds c.args.town.now c.args.nodes.now c.args.node c.loop-at.into way c.requires.there stand has

pub returns-clause-of_node : goal.returns-clause-of_node
returns-clause-of_node c = λ stand has.
    let way = subst (λ (n : ℕ). IsOnTheWay c.args.town.now c.args.nodes.now c.args.node n c.loop-at.into) (omega arith) c.loop-at.invariant.way in
    arrives_box c.args.town.now c.args.nodes.now c.args.node c.loop-at.into way c.requires.there stand has
