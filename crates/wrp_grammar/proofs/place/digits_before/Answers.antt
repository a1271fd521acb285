use Rattle.std.proofs.Common.{arith, sym, ◌∙◌}
use Rattle.wrp_grammar.proofs.DigitFronts.{digits-counted}
use Rattle.wrp_grammar.proofs.place.digits_before.Goals as goal

pub returns-then-not-is_ascii_digit-clause-digits :
    goal.returns-then-not-is_ascii_digit-clause-digits
returns-then-not-is_ascii_digit-clause-digits c =
    digits-counted c.args.text.now c.loop-place.place c.loop-place.invariant (omega arith) (λ lt. sym c.is_ascii_digit.ensures.value ∙ c.if-not-is_ascii_digit.true)

pub returns-clause-digits : goal.returns-clause-digits
returns-clause-digits c =
    omega (arith, digits-counted c.args.text.now c.loop-place.place c.loop-place.invariant (omega arith) (λ lt. absurd (omega arith)))
