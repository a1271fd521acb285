-- Each clause is a lemma of Integers.
use Rattle.wrp_sums.proofs.Integers.{*ℤ-+ℤ, *ℤ_assoc, *ℤ-neg_ℤ, scale_le, cancel_le}
use Rattle.wrp_sums.proofs.product_laws.Goals as goal

pub returns : goal.returns
returns c = record {
  distributes = *ℤ-+ℤ;
  associates = *ℤ_assoc;
  negates = *ℤ-neg_ℤ;
  scales = scale_le;
  cancels = cancel_le;
}
