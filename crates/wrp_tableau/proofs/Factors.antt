-- Common factors, and division by them.
use Rattle.std.proofs.Common.{◌≡◌, ℕ, zero, suc, ◌%◌, ◌<◌, ◌≤◌, ◌==◌, ◌≢◌, Bool, true, false, cond, int_div, unsigned_abs, ℤ, pos, negsuc, ◌*ℤ◌, ap, refl, sym, ◌∙◌, arith, eq-or-lt_of_le, subst, inl, inr}
use Rattle.std.proofs.lemmas.Nat.Gcd.{IsGcd-from_zero, IsGcd-from_mod, dvd_trans, dvd_refl, mod-eq-zero_of_dvd}
use Rattle.std.proofs.Math.Nat.{eq-zero_of_zero-dvd, zero-div}
use Rattle.std.proofs.lemmas.Int.{ints, quot-rem}
use Rattle.std.proofs.lemmas.Bool.{eqb-true, eqb-false}
use Rattle.std.specs.Int.{IsGcd, ◌∣◌}
use Rattle.wrp_sums.proofs.Integers.{zero_times, times_zero}
use Rattle.wrp_tableau.specs.Equations.{Equation, gcd_within, gcd_of, common_factor, reduced}

pub gcd_within_is : (steps a b : ℕ) → b < steps → IsGcd a b (gcd_within steps a b)
unfolding gcd_within
gcd_within_is zero a b h = absurd (omega arith)
gcd_within_is (suc steps) a b h = by (λ less. gcd_within_is steps b (a % b) less) (b == 0) refl
  where
    by : (a % b < steps → IsGcd b (a % b) (gcd_within steps b (a % b))) → (t : Bool) → (b == 0) ≡ t → IsGcd a b (cond t a (gcd_within steps b (a % b)))
    by rest true e = IsGcd-from_zero a b (eqb-true b 0 e)
    by rest false e = let ne : b ≢ 0 = eqb-false b 0 e in IsGcd-from_mod a b (gcd_within steps b (a % b)) (rest (omega arith))

pub gcd_of_is : (a b : ℕ) → IsGcd a b (gcd_of a b)
gcd_of_is a b = gcd_within_is (suc b) a b (omega arith)

-- the common factor divides the right side, and each entry
pub factor_divides_right : (n : ℕ) (e : Equation) → common_factor n e ∣ unsigned_abs e.right
unfolding common_factor
factor_divides_right zero e = dvd_refl (unsigned_abs e.right)
factor_divides_right (suc n) e = dvd_trans (gcd_of (common_factor n e) (unsigned_abs (e.entry n))) (gcd_of_is (common_factor n e) (unsigned_abs (e.entry n))).0 (factor_divides_right n e)

pub factor_divides : (n : ℕ) (e : Equation) (j : ℕ) → j < n → common_factor n e ∣ unsigned_abs (e.entry j)
unfolding common_factor
factor_divides zero e j h = absurd (omega arith)
factor_divides (suc n) e j h =
    let is = gcd_of_is (common_factor n e) (unsigned_abs (e.entry n)) in
    elim (eq-or-lt_of_le (let k : j ≤ n = omega arith in k)) [
      | inl same ↦ subst (λ k. gcd_of (common_factor n e) (unsigned_abs (e.entry n)) ∣ unsigned_abs (e.entry k)) (sym same) is.1
      | inr below ↦ dvd_trans (gcd_of (common_factor n e) (unsigned_abs (e.entry n))) is.0 (factor_divides n e j below)
    ]

-- what divides them all divides the common factor
pub factor_greatest : (n : ℕ) (e : Equation) (d : ℕ) → ((j : ℕ) → j < n → d ∣ unsigned_abs (e.entry j)) → d ∣ unsigned_abs e.right → d ∣ common_factor n e
unfolding common_factor
factor_greatest zero e d all last = last
factor_greatest (suc n) e d all last =
    (gcd_of_is (common_factor n e) (unsigned_abs (e.entry n))).2 d (factor_greatest n e d (λ j h. all j (omega arith)) last) (all n (omega arith))

-- division by a divisor is exact
pub exact : (g : ℕ) (z : ℤ) → g ∣ unsigned_abs z → pos g *ℤ int_div z (pos g) ≡ z
exact zero (pos a) h = let e : a ≡ 0 = eq-zero_of_zero-dvd h in omega (arith, ints)
exact zero (negsuc a) h = let e : suc a ≡ 0 = eq-zero_of_zero-dvd h in absurd (omega arith)
exact (suc g) (pos a) h = let e : a % suc g ≡ 0 = mod-eq-zero_of_dvd (suc g) h in omega (arith, ints)
exact (suc g) (negsuc a) h =
    let e : suc a % suc g ≡ 0 = mod-eq-zero_of_dvd (suc g) h in omega (arith, ints, quot-rem (negsuc a) (pos (suc g)))

pub reduced_entry : (n : ℕ) (e : Equation) (j : ℕ) → j < n → pos (common_factor n e) *ℤ (reduced n e).entry j ≡ e.entry j
unfolding reduced
reduced_entry n e j h = exact (common_factor n e) (e.entry j) (factor_divides n e j h)

pub reduced_right : (n : ℕ) (e : Equation) → pos (common_factor n e) *ℤ (reduced n e).right ≡ e.right
unfolding reduced
reduced_right n e = exact (common_factor n e) e.right (factor_divides_right n e)

-- an equation with an entry has a factor above 0
pub factor_above : (n : ℕ) (e : Equation) (j : ℕ) → j < n → e.entry j ≢ pos 0 → 0 < common_factor n e
factor_above n e j h some = by (common_factor n e) refl
  where
    by : (g : ℕ) → common_factor n e ≡ g → 0 < common_factor n e
    by zero none = absurd (some (sym (reduced_entry n e j h) ∙ ap (λ (g : ℕ). pos g *ℤ (reduced n e).entry j) none ∙ zero_times ((reduced n e).entry j)))
    by (suc g) is = omega arith

-- what is 0 stays 0
pub reduced_zero : (n : ℕ) (e : Equation) (j : ℕ) → e.entry j ≡ pos 0 → (reduced n e).entry j ≡ pos 0
unfolding reduced
reduced_zero n e j none = ap (λ (z : ℤ). int_div z (pos (common_factor n e))) none ∙ ap pos (zero-div (common_factor n e))

-- and what is not, does not
pub reduced_some : (n : ℕ) (e : Equation) (j : ℕ) → j < n → e.entry j ≢ pos 0 → (reduced n e).entry j ≢ pos 0
reduced_some n e j h some none = some (sym (reduced_entry n e j h) ∙ ap (λ (z : ℤ). pos (common_factor n e) *ℤ z) none ∙ times_zero (pos (common_factor n e)))
