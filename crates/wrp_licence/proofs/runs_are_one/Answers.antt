use Rattle.wrp_licence.proofs.Same.{same_start}
use Rattle.wrp_licence.proofs.Ending.{one_run, same_end, no_longer}
use Rattle.wrp_licence.proofs.runs_are_one.Goals as goal

pub returns-clause-start : goal.returns-clause-start
returns-clause-start c = λ s node pool bounds has are. same_start s node pool bounds has are

pub returns-clause-only : goal.returns-clause-only
returns-clause-only c = λ town s node a b one other first second. (
  one_run town s node a b one other first second,
  same_end town s node a b one other first second,
)

pub returns-clause-longest : goal.returns-clause-longest
returns-clause-longest c = λ town s node a b end whole run. no_longer town s node a b end whole run
