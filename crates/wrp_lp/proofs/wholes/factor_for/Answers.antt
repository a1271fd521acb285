use Rattle.std.proofs.Common.{◌≡◌, ◌≢◌, ◌<◌, ℕ, zero, suc, ℤ, pos, negsuc, ◌*ℤ◌, ◌≤ℤ◌, ◌<ℤ◌, ◌≤◌, ◌^◌, unsigned_abs, int_div, to_z, of_z, FitsSigned, arith, subst, refl, ◌∙◌, ap}
use Rattle.std.specs.Int.{w128, IsGcd, ◌∣◌}
use Rattle.std.proofs.Math.Nat.{eq-zero_of_zero-dvd}
use Rattle.std.proofs.lemmas.Nat.Gcd.{le_of_dvd}
use Rattle.wrp_sums.proofs.Integers.{linear, casts, size_of_product}
use Rattle.wrp_tableau.proofs.Factoring.{cast}
use Rattle.wrp_lp.specs.Wholes.{IsDen, IsFactorFor}
use Rattle.wrp_lp.proofs.Multiples.{factor_is}
use Rattle.wrp_lp.proofs.wholes.factor_for.Goals as goal

small_den : (den : ℤ) → IsDen den → unsigned_abs den ≤ 2 ^ 60
small_den (pos n) is = let h = is.low in omega (arith, linear)
small_den (negsuc n) is = absurd (omega (arith, linear, is.positive))

-- a divisor of a number that isn't 0 isn't 0
divisor_some : (q g : ℤ) → q ≢ pos 0 → pos 0 ≤ℤ g → unsigned_abs g ∣ unsigned_abs q → pos 0 <ℤ g
divisor_some q (pos zero) some above h = absurd (some (no_size q (eq-zero_of_zero-dvd h)))
  where
    no_size : (z : ℤ) → unsigned_abs z ≡ 0 → z ≡ pos 0
    no_size (pos a) e = ap pos e
    no_size (negsuc a) e = absurd (omega arith)
divisor_some q (pos (suc g)) some above h = omega (arith, linear)
divisor_some q (negsuc g) some above h = absurd (omega (arith, linear))

size_above : (z : ℤ) → z ≢ pos 0 → 0 < unsigned_abs z
size_above (pos zero) some = absurd (some refl)
size_above (pos (suc a)) some = omega arith
size_above (negsuc a) some = omega arith

divisor_small : (q g : ℤ) → pos 0 <ℤ g → unsigned_abs (int_div (pos (unsigned_abs q)) g) ≤ unsigned_abs q
divisor_small q (pos zero) h = absurd (omega (arith, linear))
divisor_small q (pos (suc g)) h = omega arith
divisor_small q (negsuc g) h = absurd (omega (arith, linear))

of_z_some : (g : ℤ) → pos 0 <ℤ g → to_z w128 (of_z w128 g) ≡ g → 0 < of_z w128 g
of_z_some g above same = by (of_z w128 g) refl
  where
    by : (n : ℕ) → of_z w128 g ≡ n → 0 < of_z w128 g
    by zero none = let e : to_z w128 0 ≡ g = subst (λ m. to_z w128 m ≡ g) none same in absurd (omega (arith, linear, e, above))
    by (suc n) is = omega arith

module _ (den p q a g : ℤ) (is_den : IsDen den) (p_small : unsigned_abs p ≤ 2 ^ 60) (q_small : unsigned_abs q ≤ 2 ^ 60) (q_some : q ≢ pos 0)
    (a_is : a ≡ pos (unsigned_abs (to_z w128 (of_z w128 q)))) (above : pos 0 ≤ℤ g)
    (is : IsGcd (unsigned_abs (to_z w128 (of_z w128 (to_z w128 (of_z w128 den) *ℤ to_z w128 (of_z w128 p))))) (unsigned_abs (to_z w128 (of_z w128 q))) (unsigned_abs g)) where
  q_cast : to_z w128 (of_z w128 q) ≡ q
  q_cast = cast q (omega arith)

  plain : IsGcd (unsigned_abs (den *ℤ p)) (unsigned_abs q) (unsigned_abs g)
  plain =
      let d_small = small_den den is_den in
      rw (cast den (omega arith), cast p (omega arith), q_cast, cast (den *ℤ p) (let h = size_of_product den p (2 ^ 60) (2 ^ 60) d_small p_small in omega arith)) at is

  g_some : pos 0 <ℤ g
  g_some = divisor_some q g q_some above plain.1

  g_cast : to_z w128 (of_z w128 g) ≡ g
  g_cast = let at_most : unsigned_abs g ≤ unsigned_abs q = le_of_dvd (size_above q q_some) plain.1 in cast g (omega arith)

  a_cast : to_z w128 (of_z w128 a) ≡ pos (unsigned_abs q)
  a_cast = let e : a ≡ pos (unsigned_abs q) = a_is ∙ ap (λ (z : ℤ). pos (unsigned_abs z)) q_cast in ap (λ (z : ℤ). to_z w128 (of_z w128 z)) e ∙ cast (pos (unsigned_abs q)) (omega arith)

  pub divides : (0 < of_z w128 g) × FitsSigned w128 (int_div (to_z w128 (of_z w128 a)) (to_z w128 (of_z w128 g)))
  divides =
      let small = divisor_small q g g_some in
      (of_z_some g g_some g_cast, rw (a_cast, g_cast) (omega (arith, casts)))

  pub result_is : IsFactorFor den p q (to_z w128 (of_z w128 (int_div (to_z w128 (of_z w128 a)) (to_z w128 (of_z w128 g)))))
  result_is =
      let small = divisor_small q g g_some in
      rw (a_cast, g_cast, cast (int_div (pos (unsigned_abs q)) g) (omega arith)) (factor_is den p q g is_den.positive q_some q_small above plain)

pub nonzero_div-result : goal.nonzero_div-result
nonzero_div-result c =
    divides c.args.den c.args.numerator c.args.denominator c.abs.result c.gcd.result c.requires.den c.requires.numerator c.requires.denominator c.requires.some
    c.abs.ensures.value c.gcd.ensures.not_negative c.gcd.ensures.greatest

pub returns : goal.returns
returns c =
    result_is c.args.den c.args.numerator c.args.denominator c.abs.result c.gcd.result c.requires.den c.requires.numerator c.requires.denominator c.requires.some
    c.abs.ensures.value c.gcd.ensures.not_negative c.gcd.ensures.greatest
