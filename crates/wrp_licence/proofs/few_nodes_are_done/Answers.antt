use Rattle.std.proofs.Common.{not, arith}
use Rattle.std.proofs.lemmas.List.Sums.{count_by-le-length}
use Rattle.wrp_rules.specs.Nodes.{standing, is_open}
use Rattle.wrp_laws.proofs.NodeCount.{few_nodes}
use Rattle.wrp_licence.proofs.few_nodes_are_done.Goals as goal

pub returns : goal.returns
returns c = λ town records valid.
    let s = standing town records in
    omega (arith, few_nodes town records valid, count_by-le-length (λ node. not (is_open s.upper node)) s.nodes)
