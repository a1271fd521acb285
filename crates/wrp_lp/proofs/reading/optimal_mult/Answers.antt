use Rattle.std.proofs.Common.{◌≡◌, ◌+◌, ℕ, ℤ, get_or, unsigned_abs, to_z, of_z, ap, ◌∙◌, arith}
use Rattle.std.specs.Int.{w128}
use Rattle.wrp_tableau.specs.Systems.{reduced_cost}
use Rattle.wrp_tableau.specs.Kept.{system}
use Rattle.wrp_tableau.proofs.Factoring.{cast}
use Rattle.wrp_lp.specs.Reading.{times, optimal_multiplier}
use Rattle.wrp_lp.proofs.Readings.{pushed}
use Rattle.wrp_lp.proofs.reading.optimal_mult.Goals as goal

pub loop-i-preserved : goal.loop-i-preserved
loop-i-preserved c =
    let s = system c.args.tableau.now in
    let den = to_z w128 (of_z w128 c.args.den) in
    let chosen = c.args.chosen.now in
    let i = c.loop-i.i in
    let p = c.reduced-reduced.result in
    let q = c.scale-scale.result in
    let p_small = c.reduced-reduced.ensures.small in
    let q_small = c.scale-scale.ensures.small in
    let p_is : p ≡ reduced_cost s (s.width + i) = c.reduced-reduced.ensures.value ∙ ap (λ (n : ℕ). reduced_cost s (n + i)) c.requires.width in
    let v : to_z w128 (of_z w128 c.times.result) ≡ optimal_multiplier s (unsigned_abs den) i =
    cast c.times.result (let h = c.times.ensures.small in omega arith)
    ∙ c.times.ensures.value
    ∙ ap (λ (z : ℤ). times (unsigned_abs den) z (to_z w128 (of_z w128 q))) (cast p (omega arith) ∙ p_is)
    ∙ ap (λ (z : ℤ). times (unsigned_abs den) (reduced_cost s (s.width + i)) z) (cast q (omega arith) ∙ c.scale-scale.ensures.value) in
    pushed (λ k. (get_or chosen k 0, optimal_multiplier s (unsigned_abs den) k)) i c.loop-i.mult.items c.push.new.self.items (get_or chosen i 0, to_z w128 (of_z w128 c.times.result)) c.in_ok-push.ensures.items c.loop-i.invariant
    (ap (λ (z : ℤ). (get_or chosen i 0, z)) v)
