use Rattle.std.proofs.Common.{◌≡◌, ℤ, pos, negsuc, ◌*ℤ◌, ◌≤◌, ◌^◌, unsigned_abs, int_div, to_z, of_z, refl, sym, ◌∙◌, ap, arith}
use Rattle.std.specs.Int.{w128}
use Rattle.std.proofs.lemmas.Int.{ints, to_z-of_z}
use Rattle.wrp_sums.proofs.Integers.{linear, size_of_product}
use Rattle.wrp_tableau.proofs.Factoring.{cast}
use Rattle.wrp_lp.specs.Wholes.{IsDen}
use Rattle.wrp_lp.proofs.Denominators.{small_den}
use Rattle.wrp_lp.proofs.reading.times.Goals as goal

size_of_quotient : (a b : ℤ) → unsigned_abs (int_div a b) ≤ unsigned_abs a
size_of_quotient (pos a) (pos b) = omega arith
size_of_quotient (pos a) (negsuc b) = omega (arith, ints)
size_of_quotient (negsuc a) (pos b) = omega (arith, ints)
size_of_quotient (negsuc a) (negsuc b) = omega (arith, ints)

module _ (den p q : ℤ) (is : IsDen den) (p_small : unsigned_abs p ≤ 2 ^ 60) (q_cast : to_z w128 (of_z w128 q) ≡ q) where
  product_small : unsigned_abs (den *ℤ p) ≤ 2 ^ 120
  product_small = size_of_product den p (2 ^ 60) (2 ^ 60) (small_den den is) p_small

  casts_off : to_z w128 (of_z w128 (int_div (to_z w128 (of_z w128 (to_z w128 (of_z w128 den) *ℤ to_z w128 (of_z w128 p)))) (to_z w128 (of_z w128 q)))) ≡ int_div (den *ℤ p) q
  casts_off =
      let small = product_small in
      let den_small = small_den den is in
      let quotient = size_of_quotient (den *ℤ p) q in
      rw (cast den (omega arith), cast p (omega arith), q_cast, cast (den *ℤ p) (omega arith)) (cast (int_div (den *ℤ p) q) (omega arith))

positive_den : (den : ℤ) → IsDen den → pos (unsigned_abs den) ≡ den
positive_den (pos n) is = refl
positive_den (negsuc n) is = absurd (omega (arith, linear, is.positive))

pub returns-clause-value : goal.returns-clause-value
returns-clause-value c =
    let den = c.args.den in
    casts_off den c.args.numerator c.args.denominator c.requires.den c.requires.numerator (to_z-of_z w128 c.args.denominator c.ranges.denominator)
    ∙ ap (λ (z : ℤ). int_div (z *ℤ c.args.numerator) c.args.denominator) (sym (positive_den den c.requires.den))

pub returns-clause-small : goal.returns-clause-small
returns-clause-small c =
    let den = c.args.den in
    let e = casts_off den c.args.numerator c.args.denominator c.requires.den c.requires.numerator (to_z-of_z w128 c.args.denominator c.ranges.denominator) in
    let small = product_small den c.args.numerator c.args.denominator c.requires.den c.requires.numerator (to_z-of_z w128 c.args.denominator c.ranges.denominator) in
    let quotient = size_of_quotient (den *ℤ c.args.numerator) c.args.denominator in
    rw e (omega arith)
