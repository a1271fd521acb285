-- Each clause is a lemma of SumsOver.
use Rattle.wrp_sums.proofs.SumsOver.{sum_over-+ℤ, sum_over-*ℤ, sum_over-zero, sum_over-same, sum_over-≤ℤ, sum_over-append, sum_over_more}
use Rattle.wrp_sums.proofs.sum_laws.Goals as goal

pub returns : goal.returns
returns g c = record {
  adds = sum_over-+ℤ;
  scales = sum_over-*ℤ;
  zero = sum_over-zero;
  same = sum_over-same;
  grows = sum_over-≤ℤ;
  append = sum_over-append;
  one_more = sum_over_more;
}
