use Rattle.std.proofs.Common.{arith, ◌+◌, ◌-◌, length, drop, refl, ap, ◌∙◌}
use Rattle.std.proofs.lemmas.List.{take_all, length-drop}
use Rattle.wrp_grammar.proofs.DigitFronts.{digits_front}
use Rattle.wrp_grammar.proofs.PartFronts.{pair-there, pair-not}
use Rattle.wrp_grammar.proofs.place.pair_before.Goals as goal
use Rattle.wrp_grammar.proofs.place.pair_before.Goals.{else-first-gt0-via-then-first-gt0+then-first-text+else-text-first-eq58, else-first-gt0-via-then-first-gt0+else-first-text, else-first-gt0-via-else-first-gt0}

pub returns-then-text-first-eq58 : goal.returns-then-text-first-eq58
returns-then-text-first-eq58 c =
    let text = c.args.text.now in
    let d = c.digits_before-first.result in
    let rest = drop (d + 1) text in
    let second = c.digits_before.ensures.digits ∙ ap digits_front (take_all (length text - (d + 1)) rest (omega (arith, length-drop (d + 1) text))) in
    pair-there text d c.digits_before.result (d + 1 + c.digits_before.result) c.digits_before-first.ensures.digits c.if-first-gt0.true c.if-first-text.true c.if-text-first-eq58.true second refl

pub returns-else-first-gt0 : goal.returns-else-first-gt0
returns-else-first-gt0 c =
    pair-not c.args.text.now c.digits_before-first.result c.digits_before-first.ensures.digits (λ some lt colon.
    elim c.else-first-gt0.branch [
      | else-first-gt0-via-then-first-gt0+then-first-text+else-text-first-eq58 w ↦ w.if-text-first-eq58.false colon
      | else-first-gt0-via-then-first-gt0+else-first-text w ↦ omega arith
      | else-first-gt0-via-else-first-gt0 w ↦ omega arith
    ])
