use Rattle.wrp_progress.proofs.Ends.{optimal_agrees, unfinished_agrees}
use Rattle.wrp_progress.proofs.ends_agree.Goals as goal

pub returns-clause-optimal : goal.returns-clause-optimal
returns-clause-optimal c = optimal_agrees

pub returns-clause-unfinished : goal.returns-clause-unfinished
returns-clause-unfinished c = unfinished_agrees
