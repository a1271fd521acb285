-- Each clause is a lemma of SumsOver.
use Rattle.wrp_sums.proofs.SumsOver.{sum_over_at, count_once}
use Rattle.wrp_sums.proofs.single_laws.Goals as goal

pub returns : goal.returns
returns c = record {
  at = sum_over_at;
  once = count_once;
}
