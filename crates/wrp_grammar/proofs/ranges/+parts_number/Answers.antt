use Rattle.std.proofs.Common.{arith, sym, ◌∙◌}
use Rattle.wrp_grammar.proofs.FirstNumbers.{number-good, number-bad}
use Rattle.wrp_grammar.proofs.ranges.+parts_number.Goals as goal

pub returns-then-not-is_within-clause-first : goal.returns-then-not-is_within-clause-first
returns-then-not-is_within-clause-first t c = λ broken.
    let s = c.in-Some-split_part in
    number-bad c.args.numbers.now c.in-Some.ranges.now c.in-Some.range.now c.args.tail c.args.left.now s.number.now s.others.now c.in-Some.ensures.cases.0 s.ensures.some (sym c.is_within.ensures ∙ c.if-not-is_within.true)

pub returns-clause-first : goal.returns-clause-first
returns-clause-first t c =
    let s = c.in-Some-split_part in
    number-good c.args.numbers.now c.in-Some.ranges.now c.in-Some.range.now c.args.tail c.args.left.now s.number.now s.others.now c.parts_number.result _
    c.in-Some.ensures.cases.0 s.ensures.some (sym c.is_within.ensures ∙ c.if-not-is_within.false) c.parts_number.ensures.first (omega arith)
