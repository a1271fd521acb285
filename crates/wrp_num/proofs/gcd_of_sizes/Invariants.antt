use Rattle.std.proofs.Common.{ℕ, ◌<◌, ◌^◌}
use Rattle.std.specs.Int.{IsGcd}
use Rattle.wrp_num.proofs.gcd_of_sizes.Given as goal

abbrev pub invariant-loop-rest : goal.invariant-loop-rest
invariant-loop-rest l = record {
  same : (g : ℕ) → IsGcd l.divisor l.rest g → IsGcd l.fn.a l.fn.b g;
  small : l.divisor < 2 ^ 126;
  rest_small : l.rest < 2 ^ 126;
}

abbrev pub decreases-loop-rest : goal.decreases-loop-rest
decreases-loop-rest l = l.rest
