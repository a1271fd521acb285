use Rattle.std.proofs.Common.{length, ap, arith}
use Rattle.std.proofs.lemmas.Fmt.{decimal_digit}
use Rattle.wrp_writer.proofs.Counts.{one-more-digit, few-digits}
use Rattle.wrp_writer.proofs.lengths.digits.Goals as goal

pub overflow_add-count : goal.overflow_add-count
overflow_add-count c = omega (arith, c.loop-rest.invariant.digits, few-digits c.args.number c.ranges.number.fits)

pub loop-rest-preserved : goal.loop-rest-preserved
loop-rest-preserved c = record {
  digits = omega (arith, c.loop-rest.invariant.digits, one-more-digit c.loop-rest.rest c.loop-rest-test.true c.loop-rest.invariant.small);
  small = omega (arith, c.loop-rest.invariant.small);
}

pub returns-clause-value : goal.returns-clause-value
returns-clause-value c = omega (arith, c.loop-rest.invariant.digits, ap length (decimal_digit c.loop-rest.rest (omega (arith, c.loop-rest-test.false))))

pub returns-clause-few : goal.returns-clause-few
returns-clause-few c = omega (arith, c.loop-rest.invariant.digits, few-digits c.args.number c.ranges.number.fits)
