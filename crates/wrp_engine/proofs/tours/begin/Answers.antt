use Rattle.std.proofs.Common.{length, ap, arith}
use Rattle.wrp_tour.proofs.LeanTours.{few_steps}
use Rattle.wrp_engine.proofs.tours.begin.Goals as goal

pub improve-requires-clause-few : goal.improve-requires-clause-few
improve-requires-clause-few g c =
    omega (arith, ap length c.as_slice.ensures, few_steps c.args.graph.now c.in_ok-first.first c.in_ok-first.ensures)
