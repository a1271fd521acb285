-- Each clause is a lemma of RoundedUp.
use Rattle.wrp_sums.proofs.RoundedUp.{IsCeilDiv-ceil_div, IsCeilDiv_unique, ceil_div-≤ℤ, ceil_div_of_fractions}
use Rattle.wrp_sums.proofs.rounding_laws.Goals as goal

pub returns : goal.returns
returns c = record {
  rounds_up = IsCeilDiv-ceil_div;
  unique = IsCeilDiv_unique;
  grows = ceil_div-≤ℤ;
  fractions = ceil_div_of_fractions;
}
