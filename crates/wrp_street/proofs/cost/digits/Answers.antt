use Rattle.std.proofs.Common.{sym, ◌∙◌}
use Rattle.wrp_street.proofs.DigitSteps.{one_more}
use Rattle.wrp_street.proofs.cost.digits.Goals as goal

-- one more digit keeps what is said of those read so far
pub loop-digit-preserved : goal.loop-digit-preserved
loop-digit-preserved c =
    one_more c.args.text.now c.loop-digit.digit-index c.loop-digit.value c.loop-digit.invariant c.loop-digit-test.true
    (sym c.is_ascii_digit.ensures.value ∙ c.if-not-is_ascii_digit.false)
