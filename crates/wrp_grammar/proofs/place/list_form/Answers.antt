use Rattle.std.proofs.Common.{arith, rules, ◌≡◌, true, ◌+◌, ◌&&◌, refl, sym, ap, ◌∙◌}
use Rattle.std.proofs.lemmas.Bool.{not-true}
use Rattle.std.specs.List.{list_all}
use Rattle.wrp_grammar.specs.Parts.{parts_of}
use Rattle.wrp_grammar.specs.Shapes.{is_part_of}
use Rattle.wrp_grammar.proofs.Fronts.{left-cut}
use Rattle.wrp_grammar.proofs.LeftFronts.{list-break, lifts-more, lifts-place}
use Rattle.wrp_grammar.proofs.place.list_form.Goals as goal

pub returns-in-Some-part_form-clause-front : goal.returns-in-Some-part_form-clause-front
returns-in-Some-part_form-clause-front c =
    let h = c.loop-part.invariant.lifts in
    let part = c.in-Some.part.now in
    let cut = left-cut c.loop-part.left.now part c.in-Some.others.now h.spaced c.in-Some.ensures.some c.in-Some.ensures.spaced in
    let e = c.in-Some-part_form.ensures in
    lifts-place (list_all (is_part_of c.args.tail)) c.args.line.now c.loop-part.left.now (1 + c.in-Some-part_form.at) _ h
    (list-break c.args.tail c.loop-part.left.now part c.in-Some.others.now c.in-Some-part_form.at (1 + c.in-Some-part_form.at) cut (not-true (is_part_of c.args.tail part) (sym e.broken)) e.front refl)
    (omega arith)

pub loop-part-preserved : goal.loop-part-preserved
loop-part-preserved c =
    let h = c.loop-part.invariant.lifts in
    let shape = list_all (is_part_of c.args.tail) in
    let part = c.in-Some.part.now in
    let others = c.in-Some.others.now in
    let cut = left-cut c.loop-part.left.now part others h.spaced c.in-Some.ensures.some c.in-Some.ensures.spaced in
    let here : is_part_of c.args.tail part ≡ true = search rules in
    record {
      rest = sym (ap shape c.in-Some.ensures.some ∙ ap (λ b. b && shape (parts_of others)) here) ∙ c.loop-part.invariant.rest;
      within = omega (arith, c.in-Some.ensures.length);
      lifts = lifts-more shape c.args.line.now c.loop-part.left.now part others h cut (λ ps. ap (λ b. b && shape ps) here);
    }
