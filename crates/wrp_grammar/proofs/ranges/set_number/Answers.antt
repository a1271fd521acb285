use Rattle.std.proofs.Common.{arith, ◌+◌, ◌&&◌, true, nat_le, refl, [], sym, ap, ◌∙◌, codes, ◌++◌}
use Rattle.wrp_grammar.specs.Parts.{first_half, is_index_part, number_of, are_set_parts}
use Rattle.wrp_grammar.proofs.Guards.{guard-none, guard-some}
use Rattle.wrp_grammar.proofs.FirstNumbers.{keeps-bad_one, keeps-more, colon-index}
use Rattle.wrp_grammar.proofs.SetLists.{rise, rise-start}
use Rattle.wrp_grammar.proofs.ranges.set_number.Goals as goal

pub loop-part-init : goal.loop-part-init
loop-part-init c = record { within = omega arith; keeps = record { before = []; parts = refl; same = λ ps. sym (rise-start ps); size = omega arith } }

pub returns-in-None-clause-first : goal.returns-in-None-clause-first
returns-in-None-clause-first c = λ broken.
    let part = c.in-Some.part.now in
    let low = c.loop-part.low in
    let here = guard-none (is_index_part part && nat_le low (number_of part)) (number_of part + 1) c.in-None.ensures in
    keeps-bad_one are_set_parts (rise low) c.args.line.now c.loop-part.left.now part c.in-Some.others.now _ c.loop-part.invariant.keeps c.in-Some.ensures.some refl
    (λ more. ap (λ b. b && rise (number_of part + 1) more) here)
    (ap (λ b. (b && nat_le low (number_of (first_half part ++ codes ":1"))) && true) (colon-index (first_half part))) (omega arith)

pub loop-part-preserved : goal.loop-part-preserved
loop-part-preserved c =
    let part = c.in-Some.part.now in
    let low = c.loop-part.low in
    let here = guard-some (is_index_part part && nat_le low (number_of part)) (number_of part + 1) c.in-Some-next_low.next c.in-Some-next_low.ensures in
    record {
      within = omega (arith, c.in-Some.ensures.length, c.loop-part.invariant.within);
      keeps = keeps-more are_set_parts (rise low) (rise c.in-Some-next_low.next) c.args.line.now c.loop-part.left.now part c.in-Some.others.now c.loop-part.invariant.keeps c.in-Some.ensures.some c.in-Some.ensures.length
          (λ ps. ap (λ b. b && rise (number_of part + 1) ps) here.0 ∙ ap (λ n. rise n ps) (sym here.1));
    }
