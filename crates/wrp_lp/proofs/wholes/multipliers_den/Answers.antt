use Rattle.std.proofs.Common.{◌≡◌, ℕ, ◌+◌, to_z, of_z, ap, sym, ◌∙◌, subst, arith}
use Rattle.std.specs.Int.{w128}
use Rattle.wrp_tableau.specs.Systems.{reduced_cost}
use Rattle.wrp_tableau.specs.Kept.{system}
use Rattle.wrp_tableau.proofs.Factoring.{cast}
use Rattle.wrp_lp.specs.Wholes.{IsDenOf, IsWholeMultiple, AreLarge, AreMultipliersWhole}
use Rattle.wrp_lp.proofs.Denominators.{small_den, multipliers_some, multipliers_none}
use Rattle.wrp_lp.proofs.wholes.multipliers_den.Goals as goal

pub returns-in_default-clause-none : goal.returns-in_default-clause-none
returns-in_default-clause-none c = λ none.
    let s = system c.args.tableau.now in
    let den = to_z w128 c.loop-i.den-bits in
    let i = c.loop-i.i in
    let small = small_den c.args.least c.requires.least in
    let p_small = c.reduced.ensures.small in
    let q_small = c.scale.ensures.small in
    let p_is : c.reduced.result ≡ reduced_cost s (s.width + i) = c.reduced.ensures.value ∙ ap (λ (n : ℕ). reduced_cost s (n + i)) c.requires.width in
    let large : AreLarge (IsWholeMultiple den c.reduced.result c.scale.result) = rw (cast c.reduced.result (omega arith), cast c.scale.result (omega arith)) at (c.in_default.ensures.none none) in
    multipliers_none s c.args.least i den (subst (λ z. IsDenOf (AreMultipliersWhole s z i) den) (cast c.args.least (omega arith)) c.loop-i.invariant) c.reduced.result c.scale.result p_is c.scale.ensures.value c.args.n c.loop-i-test.true large

pub loop-i-preserved : goal.loop-i-preserved
loop-i-preserved c =
    let s = system c.args.tableau.now in
    let den = to_z w128 c.loop-i.den-bits in
    let i = c.loop-i.i in
    let least = to_z w128 (of_z w128 c.args.least) in
    let next = c.in-Some.next in
    let p_small = c.reduced.ensures.small in
    let q_small = c.scale.ensures.small in
    let p_is : c.reduced.result ≡ reduced_cost s (s.width + i) = c.reduced.ensures.value ∙ ap (λ (n : ℕ). reduced_cost s (n + i)) c.requires.width in
    let some : IsDenOf (IsWholeMultiple den c.reduced.result c.scale.result) next = rw (cast c.reduced.result (omega arith), cast c.scale.result (omega arith)) at c.in-Some.ensures.some in
    let next_small = small_den next some.is_den in
    subst (IsDenOf (AreMultipliersWhole s least (i + 1))) (sym (cast next (omega arith)))
    (multipliers_some s least i den c.loop-i.invariant c.reduced.result c.scale.result p_is c.scale.ensures.value next some)
