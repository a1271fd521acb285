use Rattle.std.proofs.Common.{◌≡◌, ℕ, ℤ, pos, to_z, of_z, unsigned_abs, FitsSigned, ap, sym, ◌∙◌, rules, arith}
use Rattle.std.specs.Int.{w128}
use Rattle.std.proofs.lemmas.Int.{to_z-of_z}
use Rattle.wrp_sums.specs.Rounding.{ceil_div}
use Rattle.wrp_sums.proofs.Integers.{casts}
use Rattle.wrp_town.specs.Arcs.{cost_or_zero}
use Rattle.wrp_points.proofs.NumberSums.{cost_by_numbers}
use Rattle.wrp_points.proofs.price.price.Goals as goal

pub returns : goal.returns
returns c =
    let fits : FitsSigned w128 c.ceil_div.result = search rules in
    let cost : to_z w128 c.cost_sum.result ≡ pos c.cost_sum.result = omega (arith, casts, c.cost_sum.ensures.small) in
    let sum = c.cost_sum.ensures.cost ∙ sym (cost_by_numbers c.args.town.now c.args.numbers.now (cost_or_zero c.args.town.now) c.requires.legal) in
    let fits_den : FitsSigned w128 c.from.result = search rules in
    let den : unsigned_abs (to_z w128 (of_z w128 c.from.result)) ≡ c.args.denominator = ap unsigned_abs (to_z-of_z w128 c.from.result fits_den ∙ c.from.ensures) in
    to_z-of_z w128 c.ceil_div.result fits
    ∙ c.ceil_div.ensures.value
    ∙ ap (λ (z : ℤ). ceil_div z (unsigned_abs (to_z w128 (of_z w128 c.from.result)))) cost
    ∙ ap (λ (n : ℕ). ceil_div (pos c.cost_sum.result) n) den
    ∙ ap (λ (n : ℕ). ceil_div (pos n) c.args.denominator) sum
