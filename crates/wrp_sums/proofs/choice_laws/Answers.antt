-- Each clause is a lemma of SumsOver.
use Rattle.wrp_sums.proofs.SumsOver.{sum_over-filter, sum_over-pos, sum_over-count}
use Rattle.wrp_sums.proofs.choice_laws.Goals as goal

pub returns : goal.returns
returns g c = record {
  filters = sum_over-filter;
  naturals = sum_over-pos;
  counts = sum_over-count;
}
