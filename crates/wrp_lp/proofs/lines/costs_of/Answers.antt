use Rattle.std.proofs.Common.{◌≡◌, ◌++◌, ◌∷◌, [], ◌≤◌, ◌^◌, ℕ, ℤ, pos, Option, List, All, map, unsigned_abs, to_z, of_z, ap, sym, ◌∙◌, subst, arith, unwrap_or}
use Rattle.std.specs.List.{range_with_len}
use Rattle.std.specs.Int.{w128}
use Rattle.std.proofs.lemmas.List.FromFn.{map-range_with_len_more}
use Rattle.wrp_town.specs.Arcs.{cost_or_zero}
use Rattle.wrp_town.proofs.TownLaws.{cost_or_zero-at_most}
use Rattle.wrp_tableau.proofs.Factoring.{cast}
use Rattle.wrp_lp.proofs.Making.{costs_are, costs_small}
use Rattle.wrp_lp.proofs.lines.costs_of.Goals as goal

pub loop-arc-preserved : goal.loop-arc-preserved
loop-arc-preserved c =
    let town = c.args.town.now in
    let arc = c.loop-arc.arc in
    let cost = λ (a : ℕ). pos (cost_or_zero town a) in
    let small = cost_or_zero-at_most town arc in
    let plain : c.from.result ≡ cost arc = c.from.ensures ∙ ap pos (c.unwrap_or.ensures ∙ ap (λ (o : Option ℕ). unwrap_or o 0) c.cost.ensures.value) in
    let value : to_z w128 (of_z w128 c.from.result) ≡ cost arc = ap (λ (z : ℤ). to_z w128 (of_z w128 z)) plain ∙ cast (cost arc) (omega arith) in
    c.in_ok-push.ensures.items
    ∙ ap (λ (xs : List ℤ). xs ++ to_z w128 (of_z w128 c.from.result) ∷ []) c.loop-arc.invariant
    ∙ ap (λ (z : ℤ). map cost (range_with_len 0 arc) ++ z ∷ []) value
    ∙ sym (map-range_with_len_more cost 0 arc arc (omega arith))

pub returns-clause-costs : goal.returns-clause-costs
returns-clause-costs c =
    costs_are c.args.town.now c.loop-arc.costs.items c.loop-arc.arc (let e = c.len.ensures in let f = c.loop-arc-test.false in let g = c.loop-arc.auto.arc-end in omega arith) c.loop-arc.invariant

pub returns-clause-small : goal.returns-clause-small
returns-clause-small c =
    subst (All (λ z. unsigned_abs z ≤ 2 ^ 60)) (sym (returns-clause-costs c)) (costs_small c.args.town.now)
