use Rattle.std.proofs.Common.{◌≡◌, ◌+◌, ℕ, ℤ, pos, get_or, unsigned_abs, to_z, of_z, ap, ◌∙◌, arith}
use Rattle.std.specs.Int.{w128}
use Rattle.wrp_tableau.specs.Systems.{row}
use Rattle.wrp_tableau.specs.Kept.{system}
use Rattle.wrp_tableau.proofs.Factoring.{cast}
use Rattle.wrp_lp.specs.Reading.{empty_multiplier}
use Rattle.wrp_lp.proofs.Readings.{pushed}
use Rattle.wrp_lp.proofs.reading.empty_mult.Goals as goal

pub loop-i-preserved : goal.loop-i-preserved
loop-i-preserved c =
    let s = system c.args.tableau.now in
    let r = c.args.row in
    let chosen = c.args.chosen.now in
    let i = c.loop-i.i in
    let e = c.entry-entry.result in
    let e_small = c.entry-entry.ensures.small in
    let e_is : e ≡ (row s r).entry (s.width + i) = c.entry-entry.ensures.value ∙ ap (λ (n : ℕ). (row s r).entry (n + i)) c.requires.width in
    let plain : c.abs.result ≡ pos (unsigned_abs e) = c.abs.ensures.value ∙ ap (λ (z : ℤ). pos (unsigned_abs z)) (cast e (omega arith)) in
    let v : to_z w128 (of_z w128 c.abs.result) ≡ empty_multiplier s r i =
    ap (λ (z : ℤ). to_z w128 (of_z w128 z)) plain ∙ cast (pos (unsigned_abs e)) (omega arith) ∙ ap (λ (z : ℤ). pos (unsigned_abs z)) e_is in
    pushed (λ k. (get_or chosen k 0, empty_multiplier s r k)) i c.loop-i.mult.items c.push.new.self.items (get_or chosen i 0, to_z w128 (of_z w128 c.abs.result)) c.in_ok-push.ensures.items c.loop-i.invariant
    (ap (λ (z : ℤ). (get_or chosen i 0, z)) v)
