use Rattle.wrp_webs.proofs.Splitting.{least_of_pairs}
use Rattle.wrp_webs.proofs.Pairs.{odd_node_still, between_from_net}
use Rattle.wrp_webs.proofs.least_splits_come_from_pairs.Goals as goal

pub returns : goal.returns
returns c = record {
  pairs = λ web at s t u merge. least_of_pairs web at merge s t u;
  still = λ web at node merge. odd_node_still web at merge node;
  nets = λ web at s t found is merge. between_from_net web at is merge s t found;
}
