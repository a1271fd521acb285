use Rattle.std.proofs.Common.{◌*ℤ◌, ◌≤◌, ◌^◌, unsigned_abs, arith}
use Rattle.std.specs.Option.{SomeIff}
use Rattle.wrp_tableau.proofs.Factoring.{cast}
use Rattle.wrp_lp.specs.Wholes.{IsFactorFor}
use Rattle.wrp_lp.proofs.Denominators.{small_den, widened_some, widened_none}
use Rattle.wrp_lp.proofs.wholes.widened.Goals as goal

pub returns-clause-some : goal.returns-clause-some
returns-clause-some c =
    let den = c.args.den in
    let p = c.args.numerator in
    let q = c.args.denominator in
    let f = c.factor_for.result in
    let small = small_den den c.requires.den in
    let factor : IsFactorFor den p q f = rw (cast den (omega arith), cast p (omega (arith, c.requires.numerator)), cast q (omega (arith, c.requires.denominator))) at c.factor_for.ensures in
    let f_small = factor.small in
    let iff : SomeIff c.mul_in.result (unsigned_abs (den *ℤ f) ≤ 2 ^ 60) (den *ℤ f) = rw (cast den (omega arith), cast f (omega arith)) at c.mul_in.ensures in
    widened_some den p q f c.mul_in.result c.requires.den factor iff

pub returns-clause-none : goal.returns-clause-none
returns-clause-none c =
    let den = c.args.den in
    let p = c.args.numerator in
    let q = c.args.denominator in
    let f = c.factor_for.result in
    let small = small_den den c.requires.den in
    let factor : IsFactorFor den p q f = rw (cast den (omega arith), cast p (omega (arith, c.requires.numerator)), cast q (omega (arith, c.requires.denominator))) at c.factor_for.ensures in
    let f_small = factor.small in
    let iff : SomeIff c.mul_in.result (unsigned_abs (den *ℤ f) ≤ 2 ^ 60) (den *ℤ f) = rw (cast den (omega arith), cast f (omega arith)) at c.mul_in.ensures in
    widened_none den p q f c.mul_in.result c.requires.den factor iff
