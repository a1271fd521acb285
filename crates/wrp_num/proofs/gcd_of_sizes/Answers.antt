use Rattle.std.proofs.Common.{arith}
use Rattle.std.proofs.lemmas.Nat.Gcd.{IsGcd-from_zero, IsGcd-from_mod}
use Rattle.wrp_num.proofs.gcd_of_sizes.Goals as goal

-- one step of the division with rest
pub loop-rest-preserved : goal.loop-rest-preserved
loop-rest-preserved c = record {
  same = λ g h. c.loop-rest.invariant.same g (IsGcd-from_mod _ _ g h);
  small = c.loop-rest.invariant.rest_small;
  rest_small = omega arith;
}

pub returns-clause-greatest : goal.returns-clause-greatest
returns-clause-greatest c = c.loop-rest.invariant.same _ (IsGcd-from_zero _ _ (omega arith))
