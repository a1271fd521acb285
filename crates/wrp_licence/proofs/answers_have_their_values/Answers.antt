use Rattle.wrp_licence.proofs.Values.{optimal_there, optimum_priced, empty_there, empty_valued}
use Rattle.wrp_licence.proofs.answers_have_their_values.Goals as goal

pub returns-clause-optimal : goal.returns-clause-optimal
returns-clause-optimal c = λ s node pool bounds pivots point mult table taken has are answer. (
  optimal_there s node pool bounds pivots has are point mult table taken answer,
  optimum_priced s node pool bounds pivots has are point mult table taken answer,
)

pub returns-clause-empty : goal.returns-clause-empty
returns-clause-empty c = λ s node pool bounds pivots mult taken has are answer. (
  empty_there s node pool bounds pivots has are mult taken answer,
  empty_valued s node pool bounds pivots has are mult taken answer,
)
