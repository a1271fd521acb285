use Rattle.std.proofs.Common.{◌≡◌, ◌+◌, ◌*◌, ◌^◌, ◌<◌, ◌≤◌, ℕ, ◌+ℤ◌, List, length, to_z, of_z, unsigned_abs, ap, subst, sym, ◌∙◌, arith}
use Rattle.std.specs.Int.{w128}
use Rattle.wrp_sums.proofs.Integers.{linear, casts}
use Rattle.wrp_sums.proofs.SumsOver.{sum_over_more}
use Rattle.wrp_check.specs.Values.{term_at}
use Rattle.wrp_check.proofs.Values.{few_listed}
use Rattle.wrp_check.proofs.value.listed_value.Goals as goal

pub loop-arc-preserved : goal.loop-arc-preserved
loop-arc-preserved c =
    let i = c.loop-arc.arc-index in
    let old = c.loop-arc.invariant in
    let term = c.term-value.ensures in
    let few : i < 8000 = omega (arith, c.loop-arc-test.true, few_listed c.args.town.now c.args.tally.now c.requires.tally, ap (λ (xs : List ℕ). length xs) c.listed-arc-items.ensures) in
    let sum : to_z w128 (of_z w128 (to_z w128 c.loop-arc.value-bits +ℤ to_z w128 (of_z w128 c.term-value.result))) ≡ c.loop-arc.value +ℤ c.term-value.result =
    omega (arith, casts, old.size, term.size, few, c.loop-arc.value-is) in
    record {
      value = sum ∙ omega (arith, linear, old.value, term.value, sum_over_more (term_at c.args.town.now c.args.boxes.now c.args.tally.now c.args.scale) c.listed-arc-items.result.now i 0 c.loop-arc-test.true);
      size = subst (λ z. unsigned_abs z ≤ 2 ^ 95 + (i + 1) * 2 ^ 109) (sym sum) (omega (arith, casts, old.size, term.size));
    }
