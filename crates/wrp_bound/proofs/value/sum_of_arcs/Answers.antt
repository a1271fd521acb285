use Rattle.std.proofs.Common.{◌≡◌, pos, ◌+ℤ◌, cond, FitsSigned, to_z, of_z, arith}
use Rattle.std.specs.Int.{w128}
use Rattle.std.proofs.lemmas.Int.{to_z-of_z}
use Rattle.wrp_sums.proofs.Integers.{linear, casts}
use Rattle.wrp_town.specs.Arcs.{is_legal}
use Rattle.wrp_rows.specs.Tables.{number_at}
use Rattle.wrp_bound.specs.Values.{arc_value}
use Rattle.wrp_bound.proofs.Valued.{sum_range_more}
use Rattle.wrp_bound.proofs.value.sum_of_arcs.Goals as goal

pub loop-arc-preserved : goal.loop-arc-preserved
loop-arc-preserved c =
    let town = c.args.town.now in
    let combined = c.args.combined.now in
    let arc = c.loop-arc.arc in
    let value = arc_value town c.args.factor c.args.bounds.now (number_at combined) in
    let added = c.value_of_arc-total.result in
    let before = c.loop-arc.invariant in
    let small = c.requires.small arc in
    let fits : FitsSigned w128 (number_at combined arc) = omega (arith, casts) in
    let own : added ≡ cond (is_legal town arc) (value arc) (pos 0) = rw (to_z-of_z w128 (number_at combined arc) fits, c.as_slice-lo.ensures, c.as_slice-hi.ensures) at c.value_of_arc-total.ensures.value in
    let size = c.value_of_arc-total.ensures.small in
    let sum : to_z w128 (of_z w128 (to_z w128 c.loop-arc.total-bits +ℤ to_z w128 (of_z w128 added))) ≡ to_z w128 c.loop-arc.total-bits +ℤ added = omega (arith, casts, before.small) in
    record {
      value = omega (arith, linear, sum, own, before.value, sum_range_more value (is_legal town) arc);
      small = omega (arith, casts, sum, before.small);
    }
