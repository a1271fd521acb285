use Rattle.std.proofs.Common.{arith, sym, ◌∙◌}
use Rattle.std.proofs.lemmas.Bool.{true≢false}
use Rattle.wrp_grammar.proofs.PartFronts.{step-there, step-not}
use Rattle.wrp_grammar.proofs.place.step_before.Goals as goal
use Rattle.wrp_grammar.proofs.place.step_before.Goals.{else-digits-gt0-via-then-digits-gt0+then-digits-text+else-is_sign_byte, else-digits-gt0-via-then-digits-gt0+else-digits-text, else-digits-gt0-via-else-digits-gt0}

pub returns-then-is_sign_byte : goal.returns-then-is_sign_byte
returns-then-is_sign_byte c =
    step-there c.args.text.now c.digits_before-digits.result c.digits_before-digits.ensures.digits c.if-digits-gt0.true c.if-digits-text.true (sym c.is_sign_byte.ensures ∙ c.if-is_sign_byte.true)

pub returns-else-digits-gt0 : goal.returns-else-digits-gt0
returns-else-digits-gt0 c =
    step-not c.args.text.now c.digits_before-digits.result c.digits_before-digits.ensures.digits (λ some lt sign.
    elim c.else-digits-gt0.branch [
      | else-digits-gt0-via-then-digits-gt0+then-digits-text+else-is_sign_byte w ↦ true≢false (sym sign ∙ (sym w.is_sign_byte.ensures ∙ w.if-is_sign_byte.false))
      | else-digits-gt0-via-then-digits-gt0+else-digits-text w ↦ omega arith
      | else-digits-gt0-via-else-digits-gt0 w ↦ omega arith
    ])
