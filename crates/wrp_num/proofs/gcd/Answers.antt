-- The sizes and the cast keep their numbers.
use Rattle.std.proofs.Common.{ap, ◌∙◌, arith, ◌≡◌, unsigned_abs, pos}
use Rattle.std.specs.Int.{w128}
use Rattle.std.proofs.lemmas.Int.{to_z_pos, to_z-of_z}
use Rattle.wrp_num.proofs.Divisors.{gcd_of_zeros}
use Rattle.wrp_num.proofs.gcd.Goals as goal

pub returns-clause-greatest : goal.returns-clause-greatest
returns-clause-greatest c =
    let a : c.unsigned_abs.result ≡ unsigned_abs c.args.a = c.unsigned_abs.ensures.value ∙ ap unsigned_abs (to_z-of_z w128 c.args.a c.ranges.a) in
    let b : c.unsigned_abs-2.result ≡ unsigned_abs c.args.b = c.unsigned_abs-2.ensures.value ∙ ap unsigned_abs (to_z-of_z w128 c.args.b c.ranges.b) in
    rw (to_z_pos w128 c.gcd_of_sizes.result (omega arith), ← a, ← b) c.gcd_of_sizes.ensures.greatest

pub returns-clause-of_zeros : goal.returns-clause-of_zeros
returns-clause-of_zeros c zero_a zero_b =
    let a : c.unsigned_abs.result ≡ unsigned_abs c.args.a = c.unsigned_abs.ensures.value ∙ ap unsigned_abs (to_z-of_z w128 c.args.a c.ranges.a) in
    let b : c.unsigned_abs-2.result ≡ unsigned_abs c.args.b = c.unsigned_abs-2.ensures.value ∙ ap unsigned_abs (to_z-of_z w128 c.args.b c.ranges.b) in
    to_z_pos w128 c.gcd_of_sizes.result (omega arith)
    ∙ ap pos (gcd_of_zeros _ _ c.gcd_of_sizes.result (a ∙ ap unsigned_abs zero_a) (b ∙ ap unsigned_abs zero_b) c.gcd_of_sizes.ensures.greatest)
