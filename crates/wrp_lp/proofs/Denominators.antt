-- Steps of the search for the least denominator.
use Rattle.std.proofs.Common.{◌≡◌, ℕ, ◌+◌, ◌*◌, ◌<◌, ◌≤◌, ◌^◌, ℤ, pos, negsuc, ◌*ℤ◌, ◌≤ℤ◌, unsigned_abs, Option, None, Some, IfSome, length, sym, arith, subst, inl, inr, ◌↔◌, eq-or-lt_of_le}
use Rattle.std.specs.Option.{SomeIff}
use Rattle.std.proofs.lemmas.Nat.Gcd.{dvd_refl, le_of_dvd}
use Rattle.std.proofs.Math.Nat.{one-dvd}
use Rattle.std.specs.Int.{◌∣◌}
use Rattle.wrp_sums.proofs.Integers.{linear}
use Rattle.wrp_tableau.specs.Systems.{System, row, basic, scale, reduced_cost}
use Rattle.wrp_simplex.specs.Steps.{pivot_entry}
use Rattle.wrp_lp.specs.Reading.{IsValueWhole, IsMultiplierWhole, MakesWhole, IsLeastDen}
use Rattle.wrp_lp.specs.Wholes.{IsDen, IsDenOf, AreLarge, IsWholeMultiple, IsFactorFor, AreValuesWhole, AreMultipliersWhole}
use Rattle.wrp_lp.proofs.Numbers.{product_some}

pub small_den : (den : ℤ) → IsDen den → unsigned_abs den ≤ 2 ^ 60
small_den (pos n) is = let h = is.low in omega (arith, linear)
small_den (negsuc n) is = absurd (omega (arith, linear, is.positive))

pub den_some : (den : ℤ) → IsDen den → 0 < unsigned_abs den
den_some (pos n) is = let h = is.positive in omega (arith, linear)
den_some (negsuc n) is = absurd (omega (arith, linear, is.positive))

-- what is at least the size of z is at least it
product_den : (den f : ℤ) → IsDen den → pos 1 ≤ℤ f → unsigned_abs (den *ℤ f) ≤ 2 ^ 60 → IsDen (den *ℤ f)
product_den (pos n) (pos m) is positive small =
    let some : 0 < n * m = product_some n m (let h = is.positive in omega (arith, linear)) (omega (arith, linear)) in
    record { positive = omega (arith, linear); low = omega (arith, linear) }
product_den (pos n) (negsuc m) is positive small = absurd (omega (arith, linear))
product_den (negsuc n) f is positive small = absurd (omega (arith, linear, is.positive))

-- a denominator with the factor, where it fits
pub widened_some : (den p q f : ℤ) (result : Option ℤ) → IsDen den → IsFactorFor den p q f → SomeIff result (unsigned_abs (den *ℤ f) ≤ 2 ^ 60) (den *ℤ f) → IfSome result (IsDenOf (IsWholeMultiple den p q))
widened_some den p q f None is factor iff = tt
widened_some den p q f (Some z) is factor iff =
    subst (IsDenOf (IsWholeMultiple den p q)) (sym iff.1)
    (record { is_den = product_den den f is factor.positive iff.0; multiples = factor.multiples })

pub widened_none : (den p q f : ℤ) (result : Option ℤ) → IsDen den → IsFactorFor den p q f → SomeIff result (unsigned_abs (den *ℤ f) ≤ 2 ^ 60) (den *ℤ f) → result ≡ None → AreLarge (IsWholeMultiple den p q)
widened_none den p q f None is factor iff e d above whole =
    let at_most : unsigned_abs (den *ℤ f) ≤ d = le_of_dvd above ((factor.multiples d).1 whole) in omega arith
widened_none den p q f (Some z) is factor iff e d above whole = cc

-- ---- the values of the structural variables

one_more : (P : ℕ → Type 0) (k : ℕ) → ((r : ℕ) → r < k → P r) → P k → (r : ℕ) → r < k + 1 → P r
one_more P k all last r h = elim (eq-or-lt_of_le (let i : r ≤ k = omega arith in i)) [ inl same ↦ subst P (sym same) last | inr below ↦ all r below ]

pub values_start : (s : System) → IsDenOf (AreValuesWhole s 0) (pos 1)
values_start s = record {
  is_den = record { positive = omega (arith, linear); low = omega (arith, linear) };
  multiples = λ d. ((λ h r below basic. absurd (omega arith)), (λ all. one-dvd d));
}

module _ (s : System) (r : ℕ) (den : ℤ) (is : IsDenOf (AreValuesWhole s r) den) where
  -- a row whose basic variable is a slack
  pub values_skip : s.width ≤ basic s r → IsDenOf (AreValuesWhole s (r + 1)) den
  values_skip slack = record {
    is_den = is.is_den;
    multiples = λ d. (
      (λ h. one_more (λ k. basic s k < s.width → IsValueWhole s d k) r ((is.multiples d).0 h) (λ structural. absurd (omega arith))),
      (λ all. (is.multiples d).1 (λ k below. all k (omega arith))),
    );
  }

  -- and one whose basic variable is structural
  more : (d : ℕ) → basic s r < s.width → AreValuesWhole s (r + 1) d ↔ ((unsigned_abs den ∣ d) × IsValueWhole s d r)
  more d structural = (
    (λ all. ((is.multiples d).1 (λ k below. all k (omega arith)), all r (omega arith) structural)),
    (λ both. one_more (λ k. basic s k < s.width → IsValueWhole s d k) r ((is.multiples d).0 both.0) (λ h. both.1)),
  )

  pub values_step : (next : ℤ) → basic s r < s.width → IsDenOf (λ d. (unsigned_abs den ∣ d) × IsValueWhole s d r) next → IsDenOf (AreValuesWhole s (r + 1)) next
  values_step next structural new = record {
    is_den = new.is_den;
    multiples = λ d. ((λ h. (more d structural).1 ((new.multiples d).0 h)), (λ all. (new.multiples d).1 ((more d structural).0 all)));
  }

  pub values_large : basic s r < s.width → AreLarge (λ d. (unsigned_abs den ∣ d) × IsValueWhole s d r) → AreLarge (AreValuesWhole s (r + 1))
  values_large structural large d above all = large d above ((more d structural).0 all)

  module _ (p q : ℤ) (result : Option ℤ) (structural : basic s r < s.width) (p_is : p ≡ (row s r).right) (q_is : q ≡ pivot_entry s r) where
    pub values_some : IfSome result (IsDenOf (IsWholeMultiple den p q)) → IfSome result (IsDenOf (AreValuesWhole s (r + 1)))
    values_some all = by result all
      where
        by : (o : Option ℤ) → IfSome o (IsDenOf (IsWholeMultiple den p q)) → IfSome o (IsDenOf (AreValuesWhole s (r + 1)))
        by None h = tt
        by (Some next) h = values_step next structural (subst (λ z. IsDenOf (IsWholeMultiple den (row s r).right z) next) q_is (subst (λ z. IsDenOf (IsWholeMultiple den z q) next) p_is h))

    pub values_none : AreLarge (IsWholeMultiple den p q) → AreLarge (AreValuesWhole s (r + 1))
    values_none large = values_large structural (subst (λ z. AreLarge (IsWholeMultiple den (row s r).right z)) q_is (subst (λ z. AreLarge (IsWholeMultiple den z q)) p_is large))

-- what is asked of the first rows is asked of all
pub values_larger : (s : System) (k n : ℕ) → k ≤ n → AreLarge (AreValuesWhole s k) → AreLarge (AreValuesWhole s n)
values_larger s k n h large d above all = large d above (λ r below. all r (omega arith))

-- ---- the multipliers

pub multipliers_start : (s : System) (least : ℤ) → IsDen least → IsDenOf (AreMultipliersWhole s least 0) least
multipliers_start s least is = record {
  is_den = is;
  multiples = λ d. ((λ h. record { multiple = h; each = λ i below. absurd (omega arith) }), (λ all. all.multiple));
}

module _ (s : System) (least : ℤ) (i : ℕ) (den : ℤ) (is : IsDenOf (AreMultipliersWhole s least i) den) where
  more_multipliers : (d : ℕ) → AreMultipliersWhole s least (i + 1) d ↔ ((unsigned_abs den ∣ d) × IsMultiplierWhole s d i)
  more_multipliers d = (
    (λ all. ((is.multiples d).1 (record { multiple = all.multiple; each = λ k below. all.each k (omega arith) }), all.each i (omega arith))),
    (λ both. let before = (is.multiples d).0 both.0 in record { multiple = before.multiple; each = one_more (IsMultiplierWhole s d) i before.each both.1 }),
  )

  pub multipliers_step : (next : ℤ) → IsDenOf (λ d. (unsigned_abs den ∣ d) × IsMultiplierWhole s d i) next → IsDenOf (AreMultipliersWhole s least (i + 1)) next
  multipliers_step next new = record {
    is_den = new.is_den;
    multiples = λ d. ((λ h. (more_multipliers d).1 ((new.multiples d).0 h)), (λ all. (new.multiples d).1 ((more_multipliers d).0 all)));
  }

  pub multipliers_large : (n : ℕ) → i < n → AreLarge (λ d. (unsigned_abs den ∣ d) × IsMultiplierWhole s d i) → AreLarge (AreMultipliersWhole s least n)
  multipliers_large n h large d above all =
      large d above ((more_multipliers d).0 (record { multiple = all.multiple; each = λ k below. all.each k (omega arith) }))

  module _ (p q : ℤ) (p_is : p ≡ reduced_cost s (s.width + i)) (q_is : q ≡ scale s) where
    pub multipliers_some : (next : ℤ) → IsDenOf (IsWholeMultiple den p q) next → IsDenOf (AreMultipliersWhole s least (i + 1)) next
    multipliers_some next h =
        multipliers_step next (subst (λ z. IsDenOf (IsWholeMultiple den (reduced_cost s (s.width + i)) z) next) q_is (subst (λ z. IsDenOf (IsWholeMultiple den z q) next) p_is h))

    pub multipliers_none : (n : ℕ) → i < n → AreLarge (IsWholeMultiple den p q) → AreLarge (AreMultipliersWhole s least n)
    multipliers_none n h large =
        multipliers_large n h (subst (λ z. AreLarge (IsWholeMultiple den (reduced_cost s (s.width + i)) z)) q_is (subst (λ z. AreLarge (IsWholeMultiple den z q)) p_is large))

-- ---- both

module _ (s : System) (n : ℕ) (values : ℤ) (is : IsDenOf (AreValuesWhole s (length s.rows)) values) where
  both : (d : ℕ) → MakesWhole s n d ↔ AreMultipliersWhole s values n d
  both d = (
    (λ whole. record { multiple = (is.multiples d).1 whole.values; each = whole.multipliers }),
    (λ all. record { values = (is.multiples d).0 all.multiple; multipliers = all.each }),
  )

  pub least_is : (den : ℤ) → IsDenOf (AreMultipliersWhole s values n) den → IsLeastDen s n (unsigned_abs den)
  least_is den all = record {
    some = den_some den all.is_den;
    whole = (both (unsigned_abs den)).1 ((all.multiples (unsigned_abs den)).0 (dvd_refl (unsigned_abs den)));
    least = λ d above whole. le_of_dvd above ((all.multiples d).1 ((both d).0 whole));
  }

  pub whole_large : AreLarge (AreMultipliersWhole s values n) → AreLarge (MakesWhole s n)
  whole_large large d above whole = large d above ((both d).0 whole)

-- where the values alone make it large
pub values_alone : (s : System) (n : ℕ) → AreLarge (AreValuesWhole s (length s.rows)) → AreLarge (MakesWhole s n)
values_alone s n large d above whole = large d above whole.values

pub some_least : (s : System) (n : ℕ) (values : ℤ) (result : Option ℤ) → IsDenOf (AreValuesWhole s (length s.rows)) values → IfSome result (IsDenOf (AreMultipliersWhole s values n)) → IfSome result (λ den. IsLeastDen s n (unsigned_abs den))
some_least s n values None is h = tt
some_least s n values (Some den) is h = least_is s n values is den h
