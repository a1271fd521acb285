use Rattle.wrp_box.proofs.OnlyPoints.{only_in}
use Rattle.wrp_box.proofs.single.only_point.Goals as goal

pub returns-in_ok-lowest_point-in-None : goal.returns-in_ok-lowest_point-in-None
returns-in_ok-lowest_point-in-None c = (
  c.in_ok-lowest_point-in-None.ensures,
  λ s node has are. only_in c.args.rows.now c.args.bounds.now c.in_ok-lowest_point-in-None.field-0 c.in_ok-lowest_point-in-None.ensures c.requires.bounds c.requires.one s node has are
      (λ i below. c.emptying_row.ensures.none s node i has are c.in-None.is below),
)
