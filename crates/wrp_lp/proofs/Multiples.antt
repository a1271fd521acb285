-- The numbers that make a fraction whole are the multiples of one.
use Rattle.std.proofs.Common.{◌≡◌, ◌≢◌, ℕ, zero, suc, ◌+◌, ◌-◌, ◌*◌, ◌/◌, ◌%◌, ◌^◌, ◌<◌, ◌≤◌, ◌==◌, ℤ, pos, negsuc, ◌*ℤ◌, ◌≤ℤ◌, unsigned_abs, int_div, Bool, true, false, cond, ap, refl, sym, arith, subst, ◌↔◌}
use Rattle.std.proofs.lemmas.Nat.Gcd.{same_from_IsGcd, dvd_trans}
use Rattle.std.proofs.Math.Nat.{dvd-mul_left, dvd-mul_right, dvd-mul_right_of_dvd, dvd-sub, mul-div_cancel', div-mul_cancel, dvd_of_mul-dvd-mul_right, mul-dvd-mul_left, mul-dvd-mul_right, eq-zero_of_zero-dvd}
use Rattle.std.proofs.lemmas.Bool.{eqb-false}
use Rattle.std.proofs.lemmas.Int.{unsigned_abs-mul}
use Rattle.std.specs.Int.{IsGcd, ◌∣◌}
use Rattle.wrp_tableau.specs.Equations.{gcd_within, gcd_of}
use Rattle.wrp_tableau.proofs.Factors.{gcd_of_is}
use Rattle.wrp_sums.proofs.Integers.{linear}
use Rattle.wrp_lp.specs.Wholes.{IsFactorFor}

-- c times the rest of a division
scaled_rest : (m c a b : ℕ) → m ∣ c * a → m ∣ c * b → m ∣ c * (a % b)
scaled_rest m c a b of_a of_b =
    let whole : b * (a / b) + a % b ≡ a = omega arith in
    let scaled : c * (b * (a / b) + a % b) ≡ c * a = ap (λ (n : ℕ). c * n) whole in
    let same : c * a - c * b * (a / b) ≡ c * (a % b) = omega arith in
    subst (λ n. m ∣ n) same (dvd-sub m of_a (dvd-mul_right_of_dvd m of_b (a / b)))

scaled_within : (m c steps a b : ℕ) → b < steps → m ∣ c * a → m ∣ c * b → m ∣ c * gcd_within steps a b
unfolding gcd_within
scaled_within m c zero a b h of_a of_b = absurd (omega arith)
scaled_within m c (suc steps) a b h of_a of_b = by (λ less. scaled_within m c steps b (a % b) less of_b (scaled_rest m c a b of_a of_b)) (b == 0) refl
  where
    by : (a % b < steps → m ∣ c * gcd_within steps b (a % b)) → (t : Bool) → (b == 0) ≡ t → m ∣ c * cond t a (gcd_within steps b (a % b))
    by rest true e = of_a
    by rest false e = let ne : b ≢ 0 = eqb-false b 0 e in rest (omega arith)

-- what divides c times both numbers divides c times their greatest common divisor
pub scaled_gcd : (m c a b g : ℕ) → IsGcd a b g → m ∣ c * a → m ∣ c * b → m ∣ c * g
scaled_gcd m c a b g is of_a of_b =
    subst (λ k. m ∣ c * k) (sym (same_from_IsGcd a b g (gcd_of a b) is (gcd_of_is a b))) (scaled_within m c (suc b) a b (omega arith) of_a of_b)

module _ (den p q g : ℕ) (den_some : 0 < den) (q_some : 0 < q) (is : IsGcd (den * p) q g) where
  g_some : 0 < g
  g_some = by g refl
    where
      by : (k : ℕ) → g ≡ k → 0 < g
      by zero none = let e : q ≡ 0 = eq-zero_of_zero-dvd (subst (λ k. k ∣ q) none is.1) in absurd (omega arith)
      by (suc k) same = omega arith

  q_is : q / g * g ≡ q
  q_is = div-mul_cancel g is.1

  pub next_some : 0 < den * (q / g)
  next_some = by (q / g) refl
    where
      by : (k : ℕ) → q / g ≡ k → 0 < den * (q / g)
      by zero none = let e = q_is in let f : q / g * g ≡ 0 = rw none (omega arith) in absurd (omega arith)
      by (suc k) same = rw same (omega arith)

  -- the multiples of den * (q / g) are the multiples of den that make p over q whole
  pub next_multiples : (d : ℕ) → (den * (q / g) ∣ d) ↔ ((den ∣ d) × (q ∣ d * p))
  next_multiples d = (there, λ both. back both.0 both.1)
    where
      there : den * (q / g) ∣ d → (den ∣ d) × (q ∣ d * p)
      there h =
          let p_is : g * (den * p / g) ≡ den * p = mul-div_cancel' g is.0 in
          let same : den * p / g * q ≡ den * (q / g) * p =
          let one : den * p / g * (q / g * g) ≡ den * p / g * q = ap (λ (n : ℕ). den * p / g * n) q_is in
          let two : q / g * (g * (den * p / g)) ≡ q / g * (den * p) = ap (λ (n : ℕ). q / g * n) p_is in
          omega arith in (
            dvd_trans den (dvd-mul_right den (q / g)) h,
            dvd_trans q (subst (λ n. q ∣ n) same (dvd-mul_left q (den * p / g))) (mul-dvd-mul_right (den * (q / g)) h p),
          )

      back : den ∣ d → q ∣ d * p → den * (q / g) ∣ d
      back of_den whole =
          let k = d / den in
          let d_is : den * k ≡ d = mul-div_cancel' den of_den in
          let same : d * p ≡ k * (den * p) = let e : den * k * p ≡ d * p = ap (λ (n : ℕ). n * p) d_is in omega arith in
          let scaled : q ∣ k * g = scaled_gcd q k (den * p) q g is (subst (λ n. q ∣ n) same whole) (dvd-mul_left q k) in
          let part : q / g ∣ k = dvd_of_mul-dvd-mul_right {k = g} (q / g) g_some (subst (λ n. n ∣ k * g) (sym q_is) scaled) in
          subst (λ n. den * (q / g) ∣ n) d_is (mul-dvd-mul_left (q / g) den part)

-- the same for whole numbers with a sign
pub factor_is : (den p q g : ℤ) → pos 1 ≤ℤ den → q ≢ pos 0 → unsigned_abs q ≤ 2 ^ 60 → pos 0 ≤ℤ g → IsGcd (unsigned_abs (den *ℤ p)) (unsigned_abs q) (unsigned_abs g) → IsFactorFor den p q (int_div (pos (unsigned_abs q)) g)
factor_is (pos n) p q (pos g) positive some small above is =
    let q_some : 0 < unsigned_abs q = size_above q some in
    let divisor : IsGcd (n * unsigned_abs p) (unsigned_abs q) g = subst (λ m. IsGcd m (unsigned_abs q) g) (unsigned_abs-mul (pos n) p) is in
    let next = next_some n (unsigned_abs p) (unsigned_abs q) g (omega (arith, linear)) q_some divisor in
    record {
      positive = omega (arith, linear, part_some n (unsigned_abs q / g) next);
      small = omega arith;
      multiples = next_multiples n (unsigned_abs p) (unsigned_abs q) g (omega (arith, linear)) q_some divisor;
    }
  where
    size_above : (z : ℤ) → z ≢ pos 0 → 0 < unsigned_abs z
    size_above (pos zero) some = absurd (some refl)
    size_above (pos (suc a)) some = omega arith
    size_above (negsuc a) some = omega arith

    part_some : (a b : ℕ) → 0 < a * b → 0 < b
    part_some a zero h = absurd (omega arith)
    part_some a (suc b) h = omega arith
factor_is (pos n) p q (negsuc g) positive some small above is = absurd (omega (arith, linear))
factor_is (negsuc n) p q g positive some small above is = absurd (omega (arith, linear))
