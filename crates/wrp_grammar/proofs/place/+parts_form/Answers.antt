use Rattle.std.proofs.Common.{arith, rules, ◌≡◌, true, ◌+◌, refl, sym}
use Rattle.std.proofs.lemmas.Bool.{not-true}
use Rattle.wrp_grammar.specs.Parts.{is_digits}
use Rattle.wrp_grammar.proofs.Fronts.{left-cut}
use Rattle.wrp_grammar.proofs.LeftFronts.{number-end, number-break, number-pass}
use Rattle.wrp_grammar.proofs.place.+parts_form.Goals as goal

pub returns-in_default-split_part-clause-front : goal.returns-in_default-split_part-clause-front
returns-in_default-split_part-clause-front t c = number-end c.args.numbers.now c.args.tail c.args.left.now c.in_default-split_part.ensures.none

pub returns-in-Some-digits_form-clause-front : goal.returns-in-Some-digits_form-clause-front
returns-in-Some-digits_form-clause-front t c =
    let s = c.in-Some-split_part in
    let cut = left-cut c.args.left.now s.number.now s.others.now c.requires s.ensures.some s.ensures.spaced in
    let e = c.in-Some-digits_form.ensures in
    number-break c.args.numbers.now c.in-Some.ranges.now c.in-Some.field-0-0.now c.args.tail c.args.left.now s.number.now s.others.now c.in-Some-digits_form.at (1 + c.in-Some-digits_form.at)
    c.in-Some.ensures.cases.0 cut (not-true (is_digits s.number.now) (sym e.broken)) e.front refl

pub returns-in-Some-parts_form-clause-front : goal.returns-in-Some-parts_form-clause-front
returns-in-Some-parts_form-clause-front t c =
    let s = c.in-Some-split_part in
    let cut = left-cut c.args.left.now s.number.now s.others.now c.requires s.ensures.some s.ensures.spaced in
    let here : is_digits s.number.now ≡ true = search rules in
    number-pass c.args.numbers.now c.in-Some.ranges.now c.in-Some.field-0-0.now c.args.tail c.args.left.now s.number.now s.others.now c.in-Some-parts_form.at _
    c.in-Some.ensures.cases.0 cut here c.in-Some-parts_form.ensures.front (omega arith)
