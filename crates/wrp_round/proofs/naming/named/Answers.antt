use Rattle.std.proofs.Common.{ℤ, ◌≤◌, ◌^◌, unsigned_abs, to_z, of_z, FitsSigned, subst, arith}
use Rattle.std.specs.Int.{w128}
use Rattle.std.proofs.lemmas.Int.{to_z-of_z}
use Rattle.wrp_sums.proofs.Integers.{sized}
use Rattle.wrp_lp.specs.Reading.{IsWhole}
use Rattle.wrp_round.proofs.Named.{whole_at}
use Rattle.wrp_tableau.specs.Kept.{system}
use Rattle.wrp_round.proofs.naming.named.Goals.{then-basic-width-via-then-basic-width, then-basic-width-via-else-basic-width+then-is_whole}
use Rattle.wrp_round.proofs.naming.named.Goals as goal

small_fits : (z : ℤ) → unsigned_abs z ≤ 2 ^ 60 → FitsSigned w128 z
small_fits z small = omega (arith, sized)

pub returns-then-basic-width-clause-none : goal.returns-then-basic-width-clause-none
returns-then-basic-width-clause-none c = λ none names.
    elim c.then-basic-width.branch [
      | then-basic-width-via-then-basic-width w ↦ (let slack = w.if-basic-width.true in let structural = names.structural in absurd (omega (arith, c.basic-basic.ensures, c.requires.width)))
      | then-basic-width-via-else-basic-width+then-is_whole w ↦
          names.part (whole_at (system c.args.table.now) c.args.r c.basic-basic.result w.right.result c.entry-pivot.result c.basic-basic.ensures c.entry-pivot.ensures.value w.right.ensures.value (subst (λ (z : ℤ). IsWhole 1 w.right.result z) (to_z-of_z w128 c.entry-pivot.result (small_fits c.entry-pivot.result c.entry-pivot.ensures.small)) (subst (λ (z : ℤ). IsWhole 1 z (to_z w128 (of_z w128 c.entry-pivot.result))) (to_z-of_z w128 w.right.result (small_fits w.right.result w.right.ensures.small)) (w.is_whole.ensures.0 w.if-is_whole.true))))
    ]
