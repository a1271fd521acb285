use Rattle.std.proofs.Common.{◌∙◌}
use Rattle.std.specs.Int.{w128}
use Rattle.std.proofs.lemmas.Int.{to_z-of_z}
use Rattle.wrp_tableau.proofs.Merging.{sum_value}
use Rattle.wrp_tableau.proofs.merge.weighted.Goals as goal

pub returns-clause-value : goal.returns-clause-value
returns-clause-value c =
    sum_value c.product.result c.product-2.result c.product.ensures.small c.product-2.ensures.small
    ∙ rw (c.product.ensures.value, c.product-2.ensures.value, to_z-of_z w128 c.args.a c.ranges.a, to_z-of_z w128 c.args.x c.ranges.x, to_z-of_z w128 c.args.b c.ranges.b, to_z-of_z w128 c.args.y c.ranges.y)
