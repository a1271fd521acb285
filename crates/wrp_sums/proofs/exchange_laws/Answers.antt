-- Each clause is a lemma of SumsOver.
use Rattle.wrp_sums.proofs.SumsOver.{sum_over-map, sum_over_exchange}
use Rattle.wrp_sums.proofs.exchange_laws.Goals as goal

pub returns : goal.returns
returns g c = record {
  maps = sum_over-map;
  exchanges = sum_over_exchange;
}
