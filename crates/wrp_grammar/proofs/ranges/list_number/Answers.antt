use Rattle.std.proofs.Common.{arith, ◌&&◌, true, refl, sym, ap, ◌∙◌}
use Rattle.std.specs.List.{list_all}
use Rattle.wrp_grammar.specs.Parts.{first_half}
use Rattle.wrp_grammar.specs.Numbers.{is_right_part}
use Rattle.wrp_grammar.proofs.FirstNumbers.{keeps-bad_one, keeps-more, colon-part}
use Rattle.wrp_grammar.proofs.ranges.list_number.Goals as goal

pub returns-then-not-is_right-clause-first : goal.returns-then-not-is_right-clause-first
returns-then-not-is_right-clause-first c = λ broken.
    let part = c.in-Some.part.now in
    let rule = list_all (is_right_part c.args.tail) in
    let here = sym c.is_right.ensures ∙ c.if-not-is_right.true in
    keeps-bad_one rule rule c.args.line.now c.loop-part.left.now part c.in-Some.others.now _ c.loop-part.invariant.keeps c.in-Some.ensures.some refl
    (λ more. ap (λ b. b && rule more) here) (ap (λ b. b && true) (colon-part c.args.tail (first_half part))) (omega arith)

pub loop-part-preserved : goal.loop-part-preserved
loop-part-preserved c =
    let part = c.in-Some.part.now in
    let rule = list_all (is_right_part c.args.tail) in
    let here = sym c.is_right.ensures ∙ c.if-not-is_right.false in
    record {
      within = omega (arith, c.in-Some.ensures.length, c.loop-part.invariant.within);
      keeps = keeps-more rule rule rule c.args.line.now c.loop-part.left.now part c.in-Some.others.now c.loop-part.invariant.keeps c.in-Some.ensures.some c.in-Some.ensures.length (λ ps. ap (λ b. b && rule ps) here);
    }
