use Rattle.wrp_laws.proofs.BaseRows.{meets_base_row, balanced, cost_of_uses}
use Rattle.wrp_laws.proofs.tours_meet_the_base_rows.Goals as goal

pub returns : goal.returns
returns c = record {
  meets = meets_base_row;
  balances = balanced;
  costs = cost_of_uses;
}
