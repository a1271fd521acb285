use Rattle.std.proofs.Common.{◌≡◌, ◌+◌, ℤ, to_z, of_z, sym, ◌∙◌, ap, subst, arith}
use Rattle.std.specs.Int.{w128}
use Rattle.wrp_tableau.proofs.Factoring.{cast}
use Rattle.wrp_tableau.specs.Kept.{system}
use Rattle.wrp_round.specs.Places.{IsPlace}
use Rattle.wrp_round.specs.Roundings.{multiplier, rounding_multiplier}
use Rattle.wrp_round.proofs.Named.{multiplier_is, pairs_push, pairs_same}
use Rattle.wrp_round.proofs.naming.pairs_of.Goals.{then-multiplier-ne0+in_ok-push, else-multiplier-ne0}
use Rattle.wrp_round.proofs.naming.pairs_of.Goals as goal

pub loop-i-preserved : goal.loop-i-preserved
loop-i-preserved c =
    let s = system c.args.table.now in
    let chosen = c.args.chosen.now in
    let i = c.loop-i.i in
    let m = c.multiplier-multiplier.result in
    let entry = c.entry_at-entry.result.0 in
    let pivot_small = c.requires.small in
    let entry_small = c.entry_at-entry.ensures.small in
    let is : m ≡ rounding_multiplier s c.args.r i = multiplier_is s c.args.r c.args.width i c.args.pivot c.entry_at-entry.result.0 m c.requires.width c.requires.pivot
    (c.entry_at-entry.ensures.value ∙ c.row-terms.ensures.entries (c.args.width + i)) (c.multiplier-multiplier.ensures ∙ ap (λ (p : ℤ). multiplier p (to_z w128 (of_z w128 entry))) (cast c.args.pivot (omega arith)) ∙ ap (multiplier c.args.pivot) (cast entry (omega arith))) in
    record {
      pairs = elim c.if-multiplier-ne0.branch [
        | then-multiplier-ne0+in_ok-push w ↦ (let e = pairs_push s chosen c.args.r i c.loop-i.pairs.items c.loop-i.invariant.pairs m is w.if-multiplier-ne0.true in ap (λ (v : _). v.items) w.pairs-is ∙ w.in_ok-push.ensures.items ∙ e)
        | else-multiplier-ne0 w ↦ (let e = pairs_same s chosen c.args.r i c.loop-i.pairs.items c.loop-i.invariant.pairs (sym is ∙ w.if-multiplier-ne0.false) in ap (λ (v : _). v.items) w.pairs-is ∙ e)
      ];
      place = (let next : c.args.width + i + 1 ≡ c.args.width + (i + 1) = omega arith in subst (λ n. IsPlace c.row-terms.result.now c.entry_at-entry.result.1 n) next c.entry_at-entry.ensures.place);
    }
