use Rattle.wrp_laws.proofs.Counts.{sum_by_counts}
use Rattle.wrp_laws.proofs.arcs_sum_as_steps.Goals as goal

pub returns : goal.returns
returns c = sum_by_counts
