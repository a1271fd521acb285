use Rattle.wrp_lp.proofs.Stands.{node_value, node_free_value, node_solution}
use Rattle.wrp_lp.proofs.laws.node_laws.Goals as goal

pub returns : goal.returns
returns c = record {
  value = λ s node pool bounds den mult has are named. node_value s node pool bounds has are mult named den;
  free = λ s node pool bounds mult has are named. node_free_value s node pool bounds has are mult named;
  solution = λ s node pool bounds e mult x has are named is. node_solution s node pool bounds has are mult named e x is;
}
