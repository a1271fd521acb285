use Rattle.std.proofs.Common.{◌≡◌, ◌<◌, ℕ, List, length, set, ap, subst, sym, ◌∙◌, arith}
use Rattle.std.proofs.Math.ListN.{length-set}
use Rattle.wrp_nodes.specs.declared.kept.KeptNode.{KeptNode}
use Rattle.wrp_nodes.specs.declared.kept.UseRange.{UseRange}
use Rattle.wrp_nodes.specs.Kept.{kept_at, cut_range}
use Rattle.wrp_nodes.specs.Tables.{range_at}
use Rattle.wrp_nodes.proofs.Entering.{IsOnTheWay, one_further}
use Rattle.wrp_nodes.proofs.boxes.Boxes.enter.Goals as goal

pub loop-at-preserved : goal.loop-at-preserved
loop-at-preserved c =
    let kept = c.args.nodes.now in
    let node = c.args.node in
    let at = c.loop-at.at in
    let boxes = c.loop-at.self in
    let own = c.kept-kept.result in
    let is : own ≡ kept_at kept at = c.kept-kept.ensures in
    let some : 0 < at = omega arith in
    let arc = ap (λ (k : KeptNode). k.arc) is in
    let inside : (kept_at kept at).arc < length boxes.ranges = omega (arith, c.requires.linked.arc at some c.loop-at.invariant.there, c.loop-at.invariant.long) in
    let range : c.of.result ≡ cut_range (kept_at kept at).cut (range_at boxes (kept_at kept at).arc) =
    c.of.ensures ∙ ap (λ (r : UseRange). cut_range own.cut r) (c.range-range.ensures ∙ ap (λ (a : ℕ). range_at boxes a) c.from.ensures) ∙ ap (λ (k : KeptNode). cut_range k.cut (range_at boxes k.arc)) is in
    let table : c.set.new.self ≡ set boxes.ranges (kept_at kept at).arc (cut_range (kept_at kept at).cut (range_at boxes (kept_at kept at).arc)) =
    c.set.ensures ∙ ap (λ (r : UseRange). set boxes.ranges own.arc r) range ∙ ap (λ (a : ℕ). set boxes.ranges a (cut_range (kept_at kept at).cut (range_at boxes (kept_at kept at).arc))) arc in
    record {
      long = omega (arith, ap (λ (xs : List UseRange). length xs) c.set.ensures, length-set {A = UseRange}, c.loop-at.invariant.long);
      there = omega (arith, ap (λ (k : KeptNode). k.parent) is, c.requires.linked.parent at some c.loop-at.invariant.there, c.loop-at.invariant.there);
      way = λ town rest. subst (λ (xs : List UseRange). IsOnTheWay town kept node own.parent (record boxes { ranges = xs })) (sym table)
          (subst (λ (p : ℕ). IsOnTheWay town kept node p (record boxes { ranges = set boxes.ranges (kept_at kept at).arc (cut_range (kept_at kept at).cut (range_at boxes (kept_at kept at).arc)) })) (sym (ap (λ (k : KeptNode). k.parent) is))
          (one_further town kept node at boxes some c.loop-at.invariant.there inside (c.loop-at.invariant.way town rest)));
    }
