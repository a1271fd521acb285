use Rattle.wrp_progress.proofs.Growing.{stays, goes_one_on, goes_on_then}
use Rattle.wrp_progress.proofs.lists_go_on.Goals as goal

pub returns-clause-none : goal.returns-clause-none
returns-clause-none c = stays

pub returns-clause-one : goal.returns-clause-one
returns-clause-one c = goes_one_on

pub returns-clause-both : goal.returns-clause-both
returns-clause-both c = goes_on_then
