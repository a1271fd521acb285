use Rattle.wrp_tour.proofs.LeanTours.{few_steps, lean_writable}
use Rattle.wrp_tour.proofs.laws.lean_tours_are_short.Goals as goal

pub returns-clause-few : goal.returns-clause-few
returns-clause-few c = few_steps

pub returns-clause-writable : goal.returns-clause-writable
returns-clause-writable c = lean_writable
