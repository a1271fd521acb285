use Rattle.wrp_licence.specs.Causes.{IsCaused}
use Rattle.wrp_licence.proofs.Prefixes.{each_of_none, each_of_more}
use Rattle.wrp_licence.proofs.causes_go_on.Goals as goal

pub returns-clause-none : goal.returns-clause-none
returns-clause-none c = λ town entry. each_of_none (IsCaused town entry)

pub returns-clause-more : goal.returns-clause-more
returns-clause-more c = λ town entry added item. each_of_more (IsCaused town entry) added item
