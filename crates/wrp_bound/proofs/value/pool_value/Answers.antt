use Rattle.std.proofs.Common.{◌≡◌, ◌+ℤ◌, to_z, of_z, ap, ◌∙◌, arith}
use Rattle.std.specs.Int.{w128}
use Rattle.wrp_sums.proofs.Integers.{casts}
use Rattle.wrp_sums.specs.Sums.{sum_over}
use Rattle.wrp_town.specs.declared.town.Town.{Town}
use Rattle.wrp_town.specs.Arcs.{legal_arcs}
use Rattle.wrp_rows.specs.Tables.{number_at}
use Rattle.wrp_rows.proofs.Combined.{few_pairs}
use Rattle.wrp_bound.specs.Values.{arc_value}
use Rattle.wrp_bound.proofs.Valued.{value_of_sums}
use Rattle.wrp_bound.proofs.value.pool_value.Goals as goal

pub returns-clause-value : goal.returns-clause-value
returns-clause-value c =
    let pool = c.args.rows.now in
    let side = c.combine-right_side.result in
    let total = c.sum_of_arcs.result in
    let sums = c.combine-right_side.new.sums in
    let few = few_pairs _ c.args.mult.now c.requires.mult in
    let sum : to_z w128 (of_z w128 (to_z w128 (of_z w128 side) +ℤ to_z w128 (of_z w128 total))) ≡ side +ℤ total =
    omega (arith, casts, c.combine-right_side.ensures.small_side, c.sum_of_arcs.ensures.small) in
    value_of_sums pool c.args.factor c.args.bounds.now c.args.mult.now sums side total _ c.combine-right_side.ensures
    (c.sum_of_arcs.ensures.value ∙ ap (λ (town : Town). sum_over (arc_value town c.args.factor c.args.bounds.now (number_at sums)) (legal_arcs town)) c.town.ensures) sum
