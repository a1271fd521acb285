use Rattle.wrp_round.proofs.Cuts.{base_at_start, base_after}
use Rattle.wrp_round.proofs.laws.base_row_laws.Goals as goal

pub returns : goal.returns
returns c = record { start = base_at_start; after = base_after }
