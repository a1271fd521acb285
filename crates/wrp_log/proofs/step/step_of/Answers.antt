use Rattle.std.proofs.Common.{◌≡◌, ◌<◌, length, ◌+◌, arith, ap, sym, ◌∙◌, inl, inr, ◌⊎◌, ◌≤◌}
use Rattle.std.proofs.lemmas.Bool.Decides.{nat_tests}
use Rattle.std.proofs.lemmas.List.{length-take, get_or_past}
use Rattle.wrp_log.proofs.Stepping.{step_closed, step_broken, step_open, front_gate, size_front, cut_short, too_large}
use Rattle.wrp_log.proofs.step.step_of.Goals.{then-is_empty-via-then-is_empty, then-is_empty-via-else-is_empty+then-front-ne-OPEN, then-size-most-via-then-size-most, then-size-most-via-else-size-most+then-left-size}
use Rattle.wrp_log.proofs.step.step_of.Goals as goal

-- src/step.rt:21:9
pub returns-then-is_empty-clause-is : goal.returns-then-is_empty-clause-is
returns-then-is_empty-clause-is c at bytes front left =
    let gate = front_gate bytes c.args.front.now front in
    elim c.then-is_empty.branch [
      | then-is_empty-via-then-is_empty w ↦
          let empty : length c.args.front.now ≡ 0 = grind (arith, nat_tests, c.is_empty.ensures, w.if-is_empty.true) in
          step_closed c.args.most at bytes (λ is. omega (arith, is, gate, get_or_past c.args.front.now 0 0 (omega (arith, empty))))
      | then-is_empty-via-else-is_empty+then-front-ne-OPEN w ↦ step_closed c.args.most at bytes (λ is. w.if-front-ne-OPEN.true (sym gate ∙ is))
    ]

-- src/step.rt:24:9
pub returns-then-front-lt5-clause-is : goal.returns-then-front-lt5-clause-is
returns-then-front-lt5-clause-is c at bytes front left =
    step_broken c.args.most at bytes (front_gate bytes c.args.front.now front ∙ c.if-front-ne-OPEN.false) (cut_short c.args.most bytes (omega (arith, c.if-front-lt5.true, ap length front, length-take 5 bytes)))

-- src/step.rt:28:9
pub returns-then-size-most-clause-is : goal.returns-then-size-most-clause-is
returns-then-size-most-clause-is c at bytes front left =
    let size = c.length_in-size.ensures ∙ size_front bytes c.args.front.now front in
    let large : (c.args.most < c.length_in-size.result) ⊎ (length bytes ≤ 5 + c.length_in-size.result) = elim c.then-size-most.branch [
      | then-size-most-via-then-size-most w ↦ inl w.if-size-most.true
      | then-size-most-via-else-size-most+then-left-size w ↦ inr (omega (arith, left, w.if-left-size.true))
    ] in
    step_broken c.args.most at bytes (front_gate bytes c.args.front.now front ∙ c.if-front-ne-OPEN.false) (too_large c.args.most bytes c.length_in-size.result size large)

-- src/step.rt:17:1
pub returns-clause-is : goal.returns-clause-is
returns-clause-is c at bytes front left =
    let size = c.length_in-size.ensures ∙ size_front bytes c.args.front.now front in
    step_open c.args.most at bytes c.length_in-size.result (front_gate bytes c.args.front.now front ∙ c.if-front-ne-OPEN.false) size (omega (arith, c.if-size-most.false)) (omega (arith, left, c.if-left-size.false))
