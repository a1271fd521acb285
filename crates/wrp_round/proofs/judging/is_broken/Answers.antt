use Rattle.std.proofs.Common.{◌≡◌, ℤ, ◌*ℤ◌, to_z, of_z, sym, ap, ◌∙◌, arith, inl, inr}
use Rattle.std.specs.Int.{w128}
use Rattle.std.proofs.lemmas.Bool.{cases_Bool}
use lib.Signed.{lt_z}
use Rattle.wrp_tableau.proofs.Factoring.{cast}
use Rattle.wrp_round.proofs.Optimum.{low_den}
use Rattle.wrp_round.proofs.Judged.{below_breaks, breaks_below, lt_below, lt_above}
use Rattle.wrp_round.proofs.judging.is_broken.Goals as goal

pub returns : goal.returns
returns c =
    let town = c.args.town.now in
    let point = c.args.point.now in
    let sums = c.args.sums.now in
    let left = c.left_side.result in
    let bound = c.product.result in
    let left_small = c.left_side.ensures.small in
    let bound_small = c.product.ensures.small in
    let left_is : to_z w128 (of_z w128 left) ≡ left = cast left (omega arith) in
    let bound_is : to_z w128 (of_z w128 bound) ≡ bound = cast bound (omega arith) in
    let side_small = c.requires.small.side in
    let den_low = low_den c.args.point.now.den c.requires.point.positive c.requires.point.low in
    let side_is : to_z w128 (of_z w128 c.args.side) ≡ c.args.side = cast c.args.side (omega arith) in
    let den_is : to_z w128 (of_z w128 c.args.point.now.den) ≡ c.args.point.now.den = cast c.args.point.now.den (omega arith) in
    let value : bound ≡ c.args.side *ℤ c.args.point.now.den =
    c.product.ensures.value ∙ ap (λ (z : ℤ). z *ℤ to_z w128 (of_z w128 c.args.point.now.den)) side_is ∙ ap (λ (z : ℤ). c.args.side *ℤ z) den_is in
    let test : lt_z (to_z w128 (of_z w128 left)) (to_z w128 (of_z w128 bound)) ≡ lt_z left bound = ap (λ (z : ℤ). lt_z z (to_z w128 (of_z w128 bound))) left_is ∙ ap (lt_z left) bound_is in (
      λ told. below_breaks town point sums c.args.side left bound c.requires.point.positive c.left_side.ensures.value value (lt_below left bound (sym test ∙ told)),
      λ breaks. test ∙ elim (cases_Bool (lt_z left bound)) [
        | inl less ↦ less
        | inr above ↦ absurd (breaks_below town point sums c.args.side left bound c.requires.point.positive c.left_side.ensures.value value breaks (lt_above left bound above))
      ],
    )
