use Rattle.wrp_laws.proofs.AllEnds.{valid_end, proved_end}
use Rattle.wrp_laws.proofs.ends_hold.Goals as goal

pub returns : goal.returns
returns c = record { lists = valid_end; proofs = proved_end }
