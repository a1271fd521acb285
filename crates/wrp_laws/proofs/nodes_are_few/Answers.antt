use Rattle.wrp_laws.proofs.NodeCount.{few_nodes}
use Rattle.wrp_laws.proofs.nodes_are_few.Goals as goal

pub returns : goal.returns
returns c = few_nodes
