-- The code's quotient and rest are those of whole numbers, so the two branches are `rounds_up` and `is_up`.
use Rattle.std.proofs.Common.{pos, ◌+ℤ◌, ◌≤ℤ◌, ◌<ℤ◌, int_div, int_rem, arith}
use Rattle.std.specs.Int.{w128}
use Rattle.std.proofs.lemmas.Int.{ints, to_z-of_z, quot_fits, quot_is, rem_is}
use Rattle.wrp_num.proofs.Quotients.{rounds_up, is_up, room, is_ceil_div}
use Rattle.wrp_num.proofs.ceil_div.Goals as goal

pub returns-then-a-b-gt0 : goal.returns-then-a-b-gt0
returns-then-a-b-gt0 c =
    let a = c.args.a in
    let b = c.args.b in
    let test = rw (rem_is w128 a b c.ranges.a c.ranges.b) at c.if-a-b-gt0.true in
    let rest : pos 0 <ℤ int_rem a b = omega (arith, ints) in
    let up = rounds_up a b c.requires.positive rest in
    rw (
      quot_is w128 a b c.ranges.a c.ranges.b (quot_fits w128 a b c.ranges.a c.requires.positive),
      to_z-of_z w128 (int_div a b +ℤ pos 1) (room a b c.requires.positive c.requires.small),
    )
    (record { rounds_up = up; value = is_ceil_div a b (int_div a b +ℤ pos 1) c.requires.positive up })

pub returns-else-a-b-gt0 : goal.returns-else-a-b-gt0
returns-else-a-b-gt0 c =
    let a = c.args.a in
    let b = c.args.b in
    let test = rw (rem_is w128 a b c.ranges.a c.ranges.b) at c.if-a-b-gt0.false in
    let rest : int_rem a b ≤ℤ pos 0 = omega (arith, ints) in
    let up = is_up a b c.requires.positive rest in
    rw (quot_is w128 a b c.ranges.a c.ranges.b (quot_fits w128 a b c.ranges.a c.requires.positive))
    (record { rounds_up = up; value = is_ceil_div a b (int_div a b) c.requires.positive up })
