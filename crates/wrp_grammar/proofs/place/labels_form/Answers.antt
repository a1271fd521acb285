use Rattle.std.proofs.Common.{arith, codes, refl, ◌+◌, length, sym, ap, ◌∙◌, [], ◌∷◌}
use Rattle.wrp_grammar.specs.Parts.{parts_of}
use Rattle.wrp_grammar.specs.Shapes.{has_labels_shape}
use Rattle.wrp_grammar.proofs.Fronts.{left-cut}
use Rattle.wrp_grammar.proofs.LeftFronts.{labels-break, slash-pass, label-pass, empty-front, lifts-more, lifts-place}
use Rattle.wrp_grammar.proofs.place.labels_form.Goals as goal

pub returns-in-Some-list_form-clause-front : goal.returns-in-Some-list_form-clause-front
returns-in-Some-list_form-clause-front c =
    let h = c.loop-part.invariant.lifts in
    let cut = left-cut c.loop-part.left.now c.in-Some.part.now c.in-Some.others.now h.spaced c.in-Some.ensures.some c.in-Some.ensures.spaced in
    lifts-place has_labels_shape c.args.line.now c.loop-part.left.now (1 + length c.in-Some.part.now + c.in-Some-list_form.at) _ h
    (slash-pass c.loop-part.left.now c.in-Some.part.now c.in-Some.others.now c.in-Some-list_form.at (1 + length c.in-Some.part.now + c.in-Some-list_form.at) cut
    (sym c.is_slash_text.ensures ∙ c.if-is_slash_text.true) c.in-Some-list_form.ensures.front refl)
    (omega (arith, c.in-Some.ensures.length))

pub returns-then-not-is_digits_text-clause-front :
    goal.returns-then-not-is_digits_text-clause-front
returns-then-not-is_digits_text-clause-front c =
    let h = c.loop-part.invariant.lifts in
    let cut = left-cut c.loop-part.left.now c.in-Some.part.now c.in-Some.others.now h.spaced c.in-Some.ensures.some c.in-Some.ensures.spaced in
    lifts-place has_labels_shape c.args.line.now c.loop-part.left.now (1 + c.label_form.result) _ h
    (labels-break c.loop-part.left.now c.in-Some.part.now c.in-Some.others.now c.label_form.result (1 + c.label_form.result) cut
    (sym c.is_slash_text.ensures ∙ c.if-is_slash_text.false) (sym c.is_digits_text.ensures ∙ c.if-not-is_digits_text.true) c.label_form.ensures refl)
    (omega arith)

pub loop-part-preserved : goal.loop-part-preserved
loop-part-preserved c =
    let h = c.loop-part.invariant.lifts in
    let cut = left-cut c.loop-part.left.now c.in-Some.part.now c.in-Some.others.now h.spaced c.in-Some.ensures.some c.in-Some.ensures.spaced in
    let same = label-pass c.in-Some.part.now (sym c.is_slash_text.ensures ∙ c.if-is_slash_text.false) (sym c.is_digits_text.ensures ∙ c.if-not-is_digits_text.false) in
    record {
      rest = sym (ap has_labels_shape c.in-Some.ensures.some ∙ same (parts_of c.in-Some.others.now)) ∙ c.loop-part.invariant.rest;
      within = omega (arith, c.in-Some.ensures.length);
      lifts = lifts-more has_labels_shape c.args.line.now c.loop-part.left.now c.in-Some.part.now c.in-Some.others.now h cut same;
    }

pub returns-clause-front : goal.returns-clause-front
returns-clause-front c =
    lifts-place has_labels_shape c.args.line.now c.loop-part.left.now 0 _ c.loop-part.invariant.lifts
    (empty-front has_labels_shape c.loop-part.left.now (record { parts = codes "/" ∷ []; solid = refl; whole = refl }) c.in_default.ensures.none)
    (omega (arith, ap length c.in_default.ensures.none))
