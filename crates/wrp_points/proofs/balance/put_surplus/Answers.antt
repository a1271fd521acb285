use Rattle.std.proofs.Common.{◌≡◌, ◌≤◌, ◌^◌, get_or, unsigned_abs, arith, pos, ◌-ℤ◌, neg_ℤ, to_z, of_z}
use Rattle.std.specs.Int.{w128}
use Rattle.wrp_sums.proofs.Integers.{casts}
use Rattle.wrp_points.proofs.Surplus.{surplus_fits, shifted_fits, surplus_more}
use Rattle.wrp_points.proofs.balance.put_surplus.Goals as goal

pub shift-requires-clause-small : goal.shift-requires-clause-small
shift-requires-clause-small c =
    omega (arith, surplus_fits c.args.town.now c.args.numbers.now c.loop-pair.pair-index c.tail.result c.loop-pair.surplus c.requires.numbers c.loop-pair.invariant)

pub shift-requires-in-loop-pair-clause-small : goal.shift-requires-in-loop-pair-clause-small
shift-requires-in-loop-pair-clause-small c =
    let number = (get_or c.args.numbers.now c.loop-pair.pair-index (0, 0)).1 in
    let own : number ≤ 2 ^ 72 = c.requires.numbers.small c.loop-pair.pair-index (0, 0) c.loop-pair-test.true in
    let small : unsigned_abs (to_z w128 number) ≤ 2 ^ 72 = omega (arith, casts, own) in
    shifted_fits c.args.town.now c.args.numbers.now c.loop-pair.pair-index c.head.result c.tail.result (to_z w128 number) c.loop-pair.surplus c.shift.new.surplus c.requires.numbers c.loop-pair.invariant small c.shift.ensures

pub loop-pair-preserved : goal.loop-pair-preserved
loop-pair-preserved c =
    let number = (get_or c.args.numbers.now c.loop-pair.pair-index (0, 0)).1 in
    let own : number ≤ 2 ^ 72 = c.requires.numbers.small c.loop-pair.pair-index (0, 0) c.loop-pair-test.true in
    let first : to_z w128 number ≡ pos number = omega (arith, casts, own) in
    let second : to_z w128 (of_z w128 (pos 0 -ℤ to_z w128 number)) ≡ neg_ℤ (pos number) = omega (arith, casts, own) in
    surplus_more c.args.town.now c.args.numbers.now c.loop-pair.pair-index c.tail.result c.head.result (0, 0) (to_z w128 number) (to_z w128 (of_z w128 (pos 0 -ℤ to_z w128 number)))
    c.loop-pair.surplus c.shift.new.surplus c.shift-in-loop-pair.new.surplus c.loop-pair-test.true c.tail.ensures.value c.head.ensures.value first second c.loop-pair.invariant c.shift.ensures c.shift-in-loop-pair.ensures
