use Rattle.wrp_simplex.proofs.Stuck.{stuck_row}
use Rattle.wrp_simplex.proofs.laws.stuck_laws.Goals as goal

pub returns : goal.returns
returns c s r sound broken dual none j h = stuck_row s r sound broken dual none j h
