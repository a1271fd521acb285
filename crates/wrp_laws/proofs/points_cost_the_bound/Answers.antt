use Rattle.wrp_laws.proofs.PointCosts.{points_cost}
use Rattle.wrp_laws.proofs.points_cost_the_bound.Goals as goal

pub returns : goal.returns
returns c = λ town records i e x valid below is. points_cost town records valid i below e x is
