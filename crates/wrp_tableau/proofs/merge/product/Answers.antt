use Rattle.wrp_tableau.proofs.Merging.{product_value, product_small}
use Rattle.wrp_tableau.proofs.merge.product.Goals as goal

pub returns-clause-value : goal.returns-clause-value
returns-clause-value c = product_value c.args.a c.args.x c.ranges.a c.ranges.x c.requires.a_small c.requires.x_small

pub returns-clause-small : goal.returns-clause-small
returns-clause-small c =
    rw (product_value c.args.a c.args.x c.ranges.a c.ranges.x c.requires.a_small c.requires.x_small)
    (product_small c.args.a c.args.x c.requires.a_small c.requires.x_small)
