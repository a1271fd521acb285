use Rattle.std.proofs.Common.{◌≡◌, ◌+ℤ◌, to_z, of_z, arith}
use Rattle.std.specs.Int.{w128}
use Rattle.std.proofs.lemmas.List.{length-take-le}
use Rattle.wrp_sums.proofs.Integers.{casts}
use Rattle.wrp_rows.proofs.Combined.{named_at, row_combined}
use Rattle.wrp_rows.proofs.table.Table.combine.Goals as goal

pub add_row-side-requires-clause-row : goal.add_row-side-requires-clause-row
add_row-side-requires-clause-row c = named_at c.args.self.now c.args.mult.now c.loop-pair.pair-index (0, 0) c.requires.named c.loop-pair-test.true

pub add_row-side-requires-clause-weight : goal.add_row-side-requires-clause-weight
add_row-side-requires-clause-weight c = c.requires.light c.loop-pair.pair-index (0, 0) c.loop-pair-test.true

pub add_row-side-requires-clause-room : goal.add_row-side-requires-clause-room
add_row-side-requires-clause-room c = λ arc.
    let taken = length-take-le c.loop-pair.pair-index c.args.mult.now (omega arith) in
    omega (arith, c.loop-pair.invariant.small_coefs arc)

pub overflow_add-side : goal.overflow_add-side
overflow_add-side c =
    let taken = length-take-le c.loop-pair.pair-index c.args.mult.now (omega arith) in
    omega (arith, casts, c.loop-pair.invariant.small_side, c.add_row-side.ensures.right_side.size)

pub loop-pair-preserved : goal.loop-pair-preserved
loop-pair-preserved c =
    let taken = length-take-le c.loop-pair.pair-index c.args.mult.now (omega arith) in
    let share = c.add_row-side.ensures.right_side in
    let sum : to_z w128 (of_z w128 (to_z w128 c.loop-pair.side-bits +ℤ to_z w128 (of_z w128 c.add_row-side.result))) ≡ to_z w128 c.loop-pair.side-bits +ℤ c.add_row-side.result =
    omega (arith, casts, c.loop-pair.invariant.small_side, share.size) in
    row_combined c.args.self.now c.args.mult.now c.loop-pair.pair-index (0, 0) c.loop-pair.sums c.add_row-side.new.sums (to_z w128 c.loop-pair.side-bits) c.add_row-side.result _
    c.loop-pair-test.true c.loop-pair.invariant c.add_row-side.ensures.terms share sum
