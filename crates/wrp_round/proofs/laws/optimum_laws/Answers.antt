use Rattle.wrp_round.proofs.Optimum.{optimum_point, optimum_numbers}
use Rattle.wrp_round.proofs.laws.optimum_laws.Goals as goal

pub returns : goal.returns
returns c = record { point = optimum_point; numbers = optimum_numbers }
