use Rattle.std.proofs.Common.{◌≡◌, ◌+◌, ◌<◌, None, IfSome, ap, sym, ◌∙◌, subst, arith}
use Rattle.std.proofs.lemmas.List.{length-map}
use Rattle.wrp_tableau.specs.declared.row.Row.{Row}
use Rattle.wrp_tableau.specs.Equations.{Equation}
use Rattle.wrp_tableau.specs.Systems as systems
use Rattle.wrp_tableau.specs.Systems.{row}
use Rattle.wrp_tableau.specs.Kept.{system}
use Rattle.wrp_tableau.proofs.Factoring.{cast}
use Rattle.wrp_lp.specs.Wholes.{IsDenOf, IsWholeMultiple, AreLarge, AreValuesWhole}
use Rattle.wrp_lp.proofs.Denominators.{small_den, values_skip, values_some, values_none}
use Rattle.wrp_lp.proofs.wholes.with_value.Goals as goal

pub returns-then-basic-width-clause-some : goal.returns-then-basic-width-clause-some
returns-then-basic-width-clause-some c =
    let s = system c.args.tableau.now in
    let small = small_den c.args.den c.requires.den.is_den in
    subst (IsDenOf (AreValuesWhole s (c.args.r + 1))) (sym (cast c.args.den (omega arith)))
    (values_skip s c.args.r c.args.den c.requires.den (let e = c.basic-basic.ensures in let f = c.requires.width in let g = c.if-basic-width.true in omega arith))

pub widened-requires-clause-some : goal.widened-requires-clause-some
widened-requires-clause-some c = λ none.
    let s = system c.args.tableau.now in
    let r = c.args.r in
    let plain = sym (cast c.entry.result (let h = c.entry.ensures.small in omega arith)) ∙ none in
    c.requires.sound.own r (rw (length-map {A = Row} {B = Equation}) c.requires.there) (ap (row s r).entry (sym c.basic-basic.ensures) ∙ sym c.entry.ensures.value ∙ plain)

pub returns-clause-some : goal.returns-clause-some
returns-clause-some c =
    let s = system c.args.tableau.now in
    let r = c.args.r in
    let den = c.args.den in
    let small = small_den den c.requires.den.is_den in
    let p_small = c.right.ensures.small in
    let q_small = c.entry.ensures.small in
    let structural : systems.basic s r < s.width = let e = c.basic-basic.ensures in let f = c.requires.width in let g = c.if-basic-width.false in omega arith in
    let h : IfSome c.widened.result (IsDenOf (IsWholeMultiple den c.right.result c.entry.result)) = rw (cast den (omega arith), cast c.right.result (omega arith), cast c.entry.result (omega arith)) at c.widened.ensures.some in
    values_some s r den c.requires.den c.right.result c.entry.result c.widened.result structural c.right.ensures.value (c.entry.ensures.value ∙ ap (row s r).entry c.basic-basic.ensures) h

pub returns-clause-none : goal.returns-clause-none
returns-clause-none c = λ none.
    let s = system c.args.tableau.now in
    let r = c.args.r in
    let den = c.args.den in
    let small = small_den den c.requires.den.is_den in
    let p_small = c.right.ensures.small in
    let q_small = c.entry.ensures.small in
    let structural : systems.basic s r < s.width = let e = c.basic-basic.ensures in let f = c.requires.width in let g = c.if-basic-width.false in omega arith in
    let h : c.widened.result ≡ None → AreLarge (IsWholeMultiple den c.right.result c.entry.result) = rw (cast den (omega arith), cast c.right.result (omega arith), cast c.entry.result (omega arith)) at c.widened.ensures.none in
    values_none s r den c.requires.den c.right.result c.entry.result c.widened.result structural c.right.ensures.value (c.entry.ensures.value ∙ ap (row s r).entry c.basic-basic.ensures) (h none)
