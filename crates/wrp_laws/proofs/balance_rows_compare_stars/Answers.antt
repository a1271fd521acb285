use Rattle.wrp_laws.proofs.Balances.{balance_sum, balanced_where_met}
use Rattle.wrp_laws.proofs.balance_rows_compare_stars.Goals as goal

pub returns : goal.returns
returns c = record {
  difference = balance_sum;
  balanced = balanced_where_met;
}
