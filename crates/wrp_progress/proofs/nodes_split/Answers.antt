use Rattle.wrp_progress.proofs.Branching.{blind_follows, split_follows, split_up}
use Rattle.wrp_progress.proofs.nodes_split.Goals as goal

pub returns-clause-blind : goal.returns-clause-blind
returns-clause-blind c = λ town records node unlabelled. blind_follows town records unlabelled node

pub returns-clause-split : goal.returns-clause-split
returns-clause-split c = λ town records node arc k unlabelled. split_follows town records unlabelled node arc k

pub returns-clause-done : goal.returns-clause-done
returns-clause-done c = λ town records node arc k opened. split_up town records node opened arc k
