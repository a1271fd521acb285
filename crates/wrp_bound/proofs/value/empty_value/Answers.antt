use Rattle.std.proofs.Common.{FitsSigned, rules, ◌∙◌}
use Rattle.std.specs.Int.{w128}
use Rattle.std.proofs.lemmas.Int.{to_z-of_z}
use Rattle.wrp_bound.proofs.Valued.{free_value_is}
use Rattle.wrp_bound.proofs.value.empty_value.Goals as goal

pub returns : goal.returns
returns c = λ s node has are.
    let fits : FitsSigned w128 c.pool_value.result = search rules in
    to_z-of_z w128 c.pool_value.result fits
    ∙ c.pool_value.ensures.value
    ∙ free_value_is s node c.args.rows.now c.args.bounds.now c.args.mult.now has are c.requires.named
