-- The numbers of the variables over a denominator that makes their values whole: they are the basic solution.
use Rattle.std.proofs.Common.{◌≡◌, ◌≢◌, ℕ, zero, suc, ◌*◌, ◌<◌, ◌≤◌, ◌==◌, Bool, true, false, cond, unsigned_abs, ℤ, pos, negsuc, ◌*ℤ◌, ◌≤ℤ◌, length, ap, refl, sym, ◌∙◌, arith, subst, inl, inr, ◌⊎◌, eq-eqb}
use Rattle.std.proofs.lemmas.Bool.{ne_eqb, eqb-true, cases_eq}
use Rattle.std.proofs.Math.Nat.{dvd-mul_left, dvd-mul_right_of_dvd}
use Rattle.std.specs.Int.{◌∣◌}
use Rattle.wrp_sums.specs.Sums.{sum_over, numbers_below}
use Rattle.wrp_sums.proofs.Integers.{linear, zero_times, times_zero, cancel_le}
use Rattle.wrp_sums.proofs.SumsOver.{sum_over-push, sum_over-same, sum_over-*ℤ, sum_over-all_zero, sum_over_only}
use Rattle.wrp_sums.proofs.FirstNumbers.{below_of_inside}
use Rattle.wrp_tableau.specs.Systems.{System, variables, row, basic}
use Rattle.wrp_tableau.specs.Solutions.{left_side}
use Rattle.wrp_tableau.specs.Soundness.{IsSound}
use Rattle.wrp_simplex.specs.Steps.{pivot_entry, IsFeasible}
use Rattle.wrp_simplex.specs.BasicSolutions.{IsBasicSolution}
use Rattle.wrp_simplex.proofs.Basics.{basic_not_negative}
use Rattle.wrp_lp.specs.Reading.{times, IsValueWhole, number_of}
use Rattle.wrp_lp.proofs.Slacks.{once_below}
use Rattle.wrp_lp.proofs.Exact.{times_is, times_scaled}

-- a sum over the places at which f is j: either there is one, or the sum is 0
some_place : (f : ℕ → ℕ) (g : ℕ → ℤ) (j n : ℕ) → ((r : ℕ) × (r < n) × (f r ≡ j)) ⊎ (sum_over (λ r. cond (f r == j) (g r) (pos 0)) (numbers_below n) ≡ pos 0)
some_place f g j zero = inr refl
some_place f g j (suc n) = elim (some_place f g j n) [
  | inl (r, h, e) ↦ inl (r, omega arith, e)
  | inr none ↦ elim (cases_eq (f n) j) [
    | inl same ↦ inl (n, omega arith, same)
    | inr differs ↦ inr
        (sum_over-push (λ r. cond (f r == j) (g r) (pos 0)) (numbers_below n) n
        ∙ omega (arith, linear, none, ap (λ (t : Bool). cond t (g n) (pos 0)) (ne_eqb (f n) j differs)))
  ]
]

pub product_some : (a b : ℕ) → 0 < a → 0 < b → 0 < a * b
product_some zero b h i = absurd (omega arith)
product_some (suc a) zero h i = absurd (omega arith)
product_some (suc a) (suc b) h i = omega arith

size_some : (z : ℤ) → z ≢ pos 0 → unsigned_abs z ≢ 0
size_some (pos a) some none = some (ap pos none)
size_some (negsuc a) some none = absurd (omega arith)

module _ (s : System) (sound : IsSound s) where
  -- a variable is basic in one row
  pub one_row : (r k : ℕ) → r < length s.rows → k < length s.rows → basic s k ≡ basic s r → k ≡ r
  one_row r k h i same = elim (cases_eq k r) [
    | inl e ↦ e
    | inr differs ↦ absurd (sound.own k i (subst (λ j. (row s k).entry j ≡ pos 0) (sym same) (sound.alone r k h i differs)))
  ]

  pub number_at_basic : (den r : ℕ) → r < length s.rows → number_of s den (basic s r) ≡ times den (row s r).right (pivot_entry s r)
  number_at_basic den r h =
      let at = λ (k : ℕ). cond (basic s k == basic s r) (times den (row s k).right (pivot_entry s k)) (pos 0) in
      sum_over_only at r (numbers_below (length s.rows)) (once_below (length s.rows) r h)
      (λ k inside differs. ap (λ (t : Bool). cond t (times den (row s k).right (pivot_entry s k)) (pos 0)) (ne_eqb (basic s k) (basic s r) (λ same. differs (one_row r k h (below_of_inside (length s.rows) k inside) same))))
      ∙ ap (λ (t : Bool). cond t (times den (row s r).right (pivot_entry s r)) (pos 0)) (eq-eqb (basic s r) (basic s r) refl)

  -- where all values are whole, they are the basic solution
  pub numbers_solve : (den : ℕ) → ((r : ℕ) → r < length s.rows → IsValueWhole s den r) → IsBasicSolution s (pos den) (number_of s den)
  numbers_solve den whole = record {
    basics = λ r h. ap (λ (z : ℤ). pivot_entry s r *ℤ z) (number_at_basic den r h) ∙ times_is den (row s r).right (pivot_entry s r) (whole r h);
    others = λ j below. some_place (basic s) (λ r. times den (row s r).right (pivot_entry s r)) j (length s.rows);
  }

  -- a number that the entries of the basic variables divide
  multiple : ℕ → ℕ
  multiple zero = 1
  multiple (suc n) = multiple n * unsigned_abs (pivot_entry s n)

  multiple_some : (n : ℕ) → n ≤ length s.rows → 0 < multiple n
  unfolding multiple
  multiple_some zero h = omega arith
  multiple_some (suc n) h =
      let some : unsigned_abs (pivot_entry s n) ≢ 0 = size_some (pivot_entry s n) (sound.own n (omega arith)) in
      product_some (multiple n) (unsigned_abs (pivot_entry s n)) (multiple_some n (omega arith)) (omega arith)

  entries_divide : (n r : ℕ) → r < n → unsigned_abs (pivot_entry s r) ∣ multiple n
  unfolding multiple
  entries_divide zero r h = absurd (omega arith)
  entries_divide (suc n) r h = elim (cases_eq r n) [
    | inl same ↦ subst (λ k. unsigned_abs (pivot_entry s k) ∣ multiple n * unsigned_abs (pivot_entry s n)) (sym same) (dvd-mul_left (unsigned_abs (pivot_entry s n)) (multiple n))
    | inr differs ↦ dvd-mul_right_of_dvd (unsigned_abs (pivot_entry s r)) (entries_divide n r (omega arith)) (unsigned_abs (pivot_entry s n))
  ]

  -- by this factor a denominator makes all values whole
  pub factor : ℕ
  factor = multiple (length s.rows)

  pub factor_some : 0 < factor
  unfolding factor
  factor_some = multiple_some (length s.rows) (omega arith)

  pub all_whole : (den r : ℕ) → r < length s.rows → IsValueWhole s (factor * den) r
  unfolding factor
  all_whole den r h =
      dvd-mul_right_of_dvd (unsigned_abs (pivot_entry s r))
      (dvd-mul_right_of_dvd (unsigned_abs (pivot_entry s r)) (entries_divide (length s.rows) r h) den)
      (unsigned_abs (row s r).right)

  module _ (den : ℕ) (structural : (r : ℕ) → r < length s.rows → basic s r < s.width → IsValueWhole s den r) where
    -- the numbers of the structural variables are multiplied by it
    pub numbers_scaled : (j : ℕ) → j < s.width → number_of s (factor * den) j ≡ pos factor *ℤ number_of s den j
    numbers_scaled j h =
        let at = λ (d r : ℕ). cond (basic s r == j) (times d (row s r).right (pivot_entry s r)) (pos 0) in
        sum_over-same (at (factor * den)) (λ r. pos factor *ℤ at den r) (numbers_below (length s.rows))
        (λ r inside. let below = below_of_inside (length s.rows) r inside in by r below (basic s r == j) refl)
        ∙ sum_over-*ℤ (pos factor) (at den) (numbers_below (length s.rows))
      where
        by : (r : ℕ) → r < length s.rows → (t : Bool) → (basic s r == j) ≡ t → cond t (times (factor * den) (row s r).right (pivot_entry s r)) (pos 0) ≡ pos factor *ℤ cond t (times den (row s r).right (pivot_entry s r)) (pos 0)
        by r below true e =
            let same : basic s r ≡ j = eqb-true (basic s r) j e in
            times_scaled factor den (row s r).right (pivot_entry s r) (sound.own r below) (structural r below (omega arith)) (all_whole den r below)
        by r below false e = sym (times_zero (pos factor))

    -- where no row is broken, none of them is below 0
    pub number_above : 0 < den → IsFeasible s → (j : ℕ) → j < s.width → pos 0 ≤ℤ number_of s den j
    number_above some feasible j h =
        let positive : 0 < factor * den = product_some factor den factor_some some in
        let whole = basic_not_negative s (factor * den) (number_of s (factor * den)) sound (numbers_solve (factor * den) (all_whole den)) positive feasible j (omega arith) in
        cancel_le factor (pos 0) (number_of s den j) factor_some (omega (arith, linear, whole, numbers_scaled j h, times_zero (pos factor)))

-- the reduced costs of a basic solution sum to 0
pub nothing_left : (s : System) (d : ℤ) (x : ℕ → ℤ) → IsSound s → IsBasicSolution s d x → left_side (variables s) s.cost x ≡ pos 0
nothing_left s d x sound is =
    sum_over-all_zero (λ j. s.cost.entry j *ℤ x j) (numbers_below (variables s))
    (λ j inside. elim (is.others j (below_of_inside (variables s) j inside)) [
      | inl (k, i, e) ↦ ap (λ (z : ℤ). z *ℤ x j) (subst (λ b. s.cost.entry b ≡ pos 0) e (sound.priced k i)) ∙ zero_times (x j)
      | inr none ↦ ap (λ (z : ℤ). s.cost.entry j *ℤ z) none ∙ times_zero (s.cost.entry j)
    ])
