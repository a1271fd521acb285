use Rattle.std.proofs.Common.{ℤ, FitsSigned, rules, ap, ◌∙◌}
use Rattle.std.specs.Int.{w128}
use Rattle.std.proofs.lemmas.Int.{to_z-of_z}
use Rattle.wrp_sums.specs.Rounding.{ceil_div}
use Rattle.wrp_bound.proofs.Valued.{dual_value_is}
use Rattle.wrp_bound.proofs.value.bound_of.Goals as goal

pub returns : goal.returns
returns c = λ s node has are.
    let fits : FitsSigned w128 c.pool_value-value.result = search rules in
    let fits_den : FitsSigned w128 c.from.result = search rules in
    let fits_result : FitsSigned w128 c.ceil_div.result = search rules in
    let rounded = rw (to_z-of_z w128 c.pool_value-value.result fits, to_z-of_z w128 c.from.result fits_den, c.from.ensures) at c.ceil_div.ensures.value in
    to_z-of_z w128 c.ceil_div.result fits_result
    ∙ rounded
    ∙ ap (λ (z : ℤ). ceil_div z c.args.den) (c.pool_value-value.ensures.value ∙ dual_value_is s node c.args.rows.now c.args.bounds.now c.args.mult.now has are c.requires.named c.args.den)
