-- Equations that no number above 1 divides, and their multiples.
use Rattle.std.proofs.Common.{◌≡◌, ◌≢◌, ℕ, ◌*◌, ◌/◌, ◌<◌, int_div, unsigned_abs, ℤ, pos, ◌*ℤ◌, ap, sym, ◌∙◌, arith, subst}
use Rattle.std.specs.Int.{◌∣◌}
use Rattle.std.proofs.lemmas.Int.{unsigned_abs-mul}
use Rattle.std.proofs.Math.Path.{fun_ext}
use Rattle.std.proofs.Math.Nat.{dvd-mul_right, mul-dvd-mul_left, dvd_of_mul-dvd-mul_left, eq-one_of_dvd-one, mul-one}
use Rattle.wrp_sums.proofs.Integers.{linear, one-*ℤ, times_zero, zero_times}
use Rattle.wrp_tableau.specs.Equations.{Equation, common_factor, reduced, divided, combined, sign_of, without}
use Rattle.wrp_tableau.proofs.Differences.{cancel_same}
use Rattle.wrp_tableau.proofs.Factors.{factor_divides, factor_divides_right, factor_greatest, exact, reduced_entry, reduced_right}
use Rattle.wrp_tableau.proofs.Combining.{size_above}

-- an equation times a number
abbrev pub multiple : ℕ → Equation → Equation
multiple a e = record { entry = λ j. pos a *ℤ e.entry j; right = pos a *ℤ e.right }

quotient_of : (a m : ℕ) → a ∣ m → a * (m / a) ≡ m
quotient_of a m h = let e : pos a *ℤ pos (m / a) ≡ pos m = exact a (pos m) h in ap unsigned_abs e

divides_multiple : (a : ℕ) (z : ℤ) → a ∣ unsigned_abs (pos a *ℤ z)
divides_multiple a z = subst (λ m. a ∣ m) (sym (unsigned_abs-mul (pos a) z)) (dvd-mul_right a (unsigned_abs z))

module _ (n a : ℕ) (e : Equation) (positive : 0 < a) (primitive : common_factor n e ≡ 1) where
  factor_has : a ∣ common_factor n (multiple a e)
  factor_has = factor_greatest n (multiple a e) a (λ j h. divides_multiple a (e.entry j)) (divides_multiple a e.right)

  rest_divides : (z : ℤ) → common_factor n (multiple a e) ∣ unsigned_abs (pos a *ℤ z) → common_factor n (multiple a e) / a ∣ unsigned_abs z
  rest_divides z h =
      let k = common_factor n (multiple a e) / a in
      dvd_of_mul-dvd-mul_left k positive
      (subst (λ l. l ∣ a * unsigned_abs z) (sym (quotient_of a (common_factor n (multiple a e)) factor_has))
      (subst (λ l. common_factor n (multiple a e) ∣ l) (unsigned_abs-mul (pos a) z) h))

  rest_one : common_factor n (multiple a e) / a ≡ 1
  rest_one = eq-one_of_dvd-one
      (subst (λ l. common_factor n (multiple a e) / a ∣ l) primitive
      (factor_greatest n e (common_factor n (multiple a e) / a)
      (λ j h. rest_divides (e.entry j) (factor_divides n (multiple a e) j h))
      (rest_divides e.right (factor_divides_right n (multiple a e)))))

  pub factor_multiple : common_factor n (multiple a e) ≡ a
  factor_multiple = sym (quotient_of a (common_factor n (multiple a e)) factor_has) ∙ ap (λ (k : ℕ). a * k) rest_one ∙ mul-one a

  undone : (z : ℤ) → int_div (pos a *ℤ z) (pos a) ≡ z
  undone z = cancel_same a (int_div (pos a *ℤ z) (pos a)) z positive (exact a (pos a *ℤ z) (divides_multiple a z))

  -- a multiple is divided by what it is a multiple of
  pub reduced_multiple : reduced n (multiple a e) ≡ e
  unfolding reduced
  reduced_multiple =
      ap (λ (g : ℕ). divided g (multiple a e)) factor_multiple
      ∙ ap (λ (f : ℕ → ℤ). record { entry = f; right = int_div (pos a *ℤ e.right) (pos a) }) (fun_ext (λ j. undone (e.entry j)))
      ∙ ap (λ (r : ℤ). record { entry = e.entry; right = r }) (undone e.right)

by_one : (z : ℤ) → int_div z (pos 1) ≡ z
by_one z = sym (one-*ℤ (int_div z (pos 1))) ∙ exact 1 z (subst (λ m. 1 ∣ m) (mul-one (unsigned_abs z)) (ones (unsigned_abs z)))
  where
    ones : (m : ℕ) → 1 ∣ m * 1
    ones m = subst (λ k. 1 ∣ k) (let e : 1 * m ≡ m * 1 = omega arith in e) (dvd-mul_right 1 m)

-- an equation that no number divides is reduced
pub reduced_primitive : (n : ℕ) (e : Equation) → common_factor n e ≡ 1 → reduced n e ≡ e
unfolding reduced
reduced_primitive n e primitive =
    ap (λ (g : ℕ). divided g e) primitive
    ∙ ap (λ (f : ℕ → ℤ). record { entry = f; right = int_div e.right (pos 1) }) (fun_ext (λ j. by_one (e.entry j)))
    ∙ ap (λ (r : ℤ). record { entry = e.entry; right = r }) (by_one e.right)

-- a reduced equation is one that no number divides
pub factor_reduced : (n : ℕ) (e : Equation) → 0 < common_factor n e → common_factor n (reduced n e) ≡ 1
factor_reduced n e positive = eq-one_of_dvd-one
    (dvd_of_mul-dvd-mul_left (common_factor n (reduced n e)) positive
    (subst (λ l. common_factor n e * common_factor n (reduced n e) ∣ l) (sym (mul-one (common_factor n e)))
    (factor_greatest n e (common_factor n e * common_factor n (reduced n e))
    (λ j h. grown ((reduced n e).entry j) (e.entry j) (reduced_entry n e j h) (factor_divides n (reduced n e) j h))
    (grown (reduced n e).right e.right (reduced_right n e) (factor_divides_right n (reduced n e))))))
  where
    grown : (y z : ℤ) → pos (common_factor n e) *ℤ y ≡ z → common_factor n (reduced n e) ∣ unsigned_abs y → common_factor n e * common_factor n (reduced n e) ∣ unsigned_abs z
    grown y z is h =
        subst (λ l. common_factor n e * common_factor n (reduced n e) ∣ l)
        (sym (unsigned_abs-mul (pos (common_factor n e)) y) ∙ ap unsigned_abs is)
        (mul-dvd-mul_left (common_factor n (reduced n e)) (common_factor n e) h)

combined_none : (p q x y : ℤ) → q ≡ pos 0 → combined p q x y ≡ pos (unsigned_abs p) *ℤ x
combined_none p q x y none = rw none (omega (arith, linear, ap (λ (z : ℤ). z *ℤ y) (times_zero (sign_of p)), zero_times y))

-- an equation without an entry at c stays as it is
pub stays : (n c : ℕ) (by e : Equation) → by.entry c ≢ pos 0 → e.entry c ≡ pos 0 → common_factor n e ≡ 1 → reduced n (without c by e) ≡ e
unfolding without
stays n c by e some none primitive =
    let a = unsigned_abs (by.entry c) in
    ap (λ (f : ℕ → ℤ). reduced n (record { entry = f; right = combined (by.entry c) (e.entry c) e.right by.right }))
    (fun_ext (λ j. combined_none (by.entry c) (e.entry c) (e.entry j) (by.entry j) none))
    ∙ ap (λ (r : ℤ). reduced n (record { entry = λ j. pos a *ℤ e.entry j; right = r }))
    (combined_none (by.entry c) (e.entry c) e.right by.right none)
    ∙ reduced_multiple n a e (size_above (by.entry c) some) primitive
