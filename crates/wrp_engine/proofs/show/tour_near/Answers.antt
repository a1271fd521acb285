use Rattle.std.proofs.Common.{length, ap, arith}
use Rattle.wrp_tour.proofs.LeanTours.{few_steps}
use Rattle.wrp_engine.proofs.Showing.{improved_near}
use Rattle.wrp_engine.proofs.show.tour_near.Goals as goal

pub improve-requires-clause-few : goal.improve-requires-clause-few
improve-requires-clause-few c =
    omega (arith, ap length c.as_slice.ensures, few_steps c.args.desk.now.graph.now c.in_ok-found.found c.in_ok-found.ensures.lean)

pub returns-clause-near : goal.returns-clause-near
returns-clause-near c =
    improved_near c.args.desk.now.graph.now c.args.point.now c.in_ok-found.found c.as_slice.result.now c.as_slice.ensures c.improve.result c.improve.ensures.cost c.in_ok-found.ensures.whole
