use Rattle.std.proofs.Common.{◌≡◌, ◌*◌, ◌^◌, ◌≤◌, ℕ, Option, get_or, ap, ◌∙◌, arith, mul-le-mul}
use Rattle.std.specs.Option.{unwrap_or}
use Rattle.std.proofs.lemmas.List.Sums.{sum_by_more}
use Rattle.wrp_town.specs.Arcs.{cost_or_zero}
use Rattle.wrp_town.proofs.TownLaws.{cost_or_zero-at_most}
use Rattle.wrp_points.proofs.price.cost_sum.Goals as goal

pub loop-pair-preserved : goal.loop-pair-preserved
loop-pair-preserved c =
    let town = c.args.town.now in
    let i = c.loop-pair.pair-index in
    let q = get_or c.args.numbers.now i (0, 0) in
    let cost : c.from.result ≡ cost_or_zero town q.0 = c.from.ensures ∙ c.unwrap_or.ensures ∙ ap (λ (o : Option ℕ). unwrap_or o 0) c.cost.ensures.value in
    let low : c.from.result ≤ 2 ^ 30 = omega (arith, cost, cost_or_zero-at_most town q.0) in
    let own : q.1 ≤ 2 ^ 72 = c.requires.small i (0, 0) c.loop-pair-test.true in
    let small : c.from.result * q.1 ≤ 2 ^ 30 * 2 ^ 72 = mul-le-mul low own in
    record {
      sum = omega (arith, c.loop-pair.invariant.sum, sum_by_more (λ (p : ℕ × ℕ). cost_or_zero town p.0 * p.1) c.args.numbers.now i (0, 0) c.loop-pair-test.true, ap (λ (n : ℕ). n * q.1) cost);
      small = omega (arith, c.loop-pair.invariant.small);
    }
