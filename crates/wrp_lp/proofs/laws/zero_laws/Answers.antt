use Rattle.wrp_lp.proofs.Stands.{value_without_zeros}
use Rattle.wrp_lp.proofs.laws.zero_laws.Goals as goal

pub returns : goal.returns
returns c = value_without_zeros
