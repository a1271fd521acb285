use Rattle.wrp_progress.proofs.Branching.{empty_follows, apart_follows, bound_follows, emptied, shut_off, bounded}
use Rattle.wrp_progress.proofs.nodes_close.Goals as goal

pub returns-clause-empty : goal.returns-clause-empty
returns-clause-empty c = λ town records node mult unlabelled. empty_follows town records unlabelled node mult

pub returns-clause-emptied : goal.returns-clause-emptied
returns-clause-emptied c = λ town records node mult opened. emptied town records node opened mult

pub returns-clause-apart : goal.returns-clause-apart
returns-clause-apart c = λ town records node r1 r2 set unlabelled. apart_follows town records unlabelled node r1 r2 set

pub returns-clause-shut : goal.returns-clause-shut
returns-clause-shut c = λ town records node r1 r2 set opened. shut_off town records node opened r1 r2 set

pub returns-clause-bound : goal.returns-clause-bound
returns-clause-bound c = λ town records node den mult unlabelled. bound_follows town records unlabelled node den mult

pub returns-clause-bounded : goal.returns-clause-bounded
returns-clause-bounded c = λ town records node den mult opened. bounded town records node opened den mult
