use Rattle.std.proofs.Common.{◌≡◌, ◌<◌, true, ap, sym, ◌∙◌, subst, arith}
use Rattle.wrp_nodes.specs.declared.kept.KeptNode.{KeptNode}
use Rattle.wrp_nodes.specs.Kept.{kept_at}
use Rattle.wrp_nodes.specs.Tables.{IsCutAbove}
use Rattle.wrp_points.specs.Boxes.{allows_at}
use Rattle.wrp_points.proofs.InBox.{pass_above, nothing_passes}
use Rattle.wrp_points.proofs.within.allows_cut.Goals as goal

pub returns-then-not-allows_at : goal.returns-then-not-allows_at
returns-then-not-allows_at c =
    let some : 0 < c.loop-at.at = omega arith in
    let arc : (kept_at c.args.nodes.now c.loop-at.at).arc ≡ c.from.result = ap (λ (k : KeptNode). k.arc) (sym c.kept-kept.ensures) ∙ sym c.from.ensures in
    (c.from.result, c.loop-at.invariant.further c.from.result (IsCutAbove.here c.loop-at.at some arc), sym c.allows_at.ensures ∙ c.if-not-allows_at.true)

pub loop-at-preserved : goal.loop-at-preserved
loop-at-preserved c =
    let kept = c.args.nodes.now in
    let at = c.loop-at.at in
    let some : 0 < at = omega arith in
    let parent : c.kept-kept.result.parent ≡ (kept_at kept at).parent = ap (λ (k : KeptNode). k.parent) c.kept-kept.ensures in
    let arc : c.from.result ≡ (kept_at kept at).arc = c.from.ensures ∙ ap (λ (k : KeptNode). k.arc) c.kept-kept.ensures in
    let test = allows_at c.args.boxes.now c.args.denominator c.args.table.now in
    let passes : test (kept_at kept at).arc ≡ true = ap test (sym arc) ∙ sym c.allows_at.ensures ∙ c.if-not-allows_at.false in
    record {
      there = omega (arith, parent, c.requires.linked.parent at some c.loop-at.invariant.there, c.loop-at.invariant.there);
      further = λ a cut. c.loop-at.invariant.further a (IsCutAbove.above at some (subst (IsCutAbove kept a) parent cut));
      decides = λ rest. c.loop-at.invariant.decides (pass_above kept at test passes (λ a cut. rest a (subst (IsCutAbove kept a) (sym parent) cut)));
    }

pub returns : goal.returns
returns c = c.loop-at.invariant.decides (λ arc cut. absurd (nothing_passes c.args.nodes.now arc c.loop-at.at (omega arith) cut))
