-- Each clause is a lemma of FirstNumbers.
use Rattle.wrp_sums.proofs.FirstNumbers.{inside_numbers_below, below_of_inside, once_below, sum_passing_more}
use Rattle.wrp_sums.proofs.first_numbers_laws.Goals as goal

pub returns : goal.returns
returns c = record {
  below = λ n i. (below_of_inside n i, inside_numbers_below n i);
  passing = once_below;
  one_more = sum_passing_more;
}
