use Rattle.wrp_euler.proofs.PieceLaws.{circuit_one_piece}
use Rattle.wrp_euler.proofs.SpentWalks.{circuit_there, circuit_balanced}
use Rattle.wrp_euler.proofs.laws.circuit_laws.Goals as goal

pub returns : goal.returns
returns c town counts are = (
  λ circuit. (circuit_balanced town counts circuit.0 circuit.1, circuit_one_piece town counts circuit.0 circuit.1),
  λ both. circuit_there town counts are both.0 both.1,
)
