use Rattle.wrp_progress.proofs.OnePoint.{row_met, bare_bound}
use Rattle.wrp_progress.proofs.points_end.Goals as goal

pub returns-clause-meets : goal.returns-clause-meets
returns-clause-meets c = λ town rows node x i one. row_met town rows node x one i

pub returns-clause-bound : goal.returns-clause-bound
returns-clause-bound c = bare_bound
