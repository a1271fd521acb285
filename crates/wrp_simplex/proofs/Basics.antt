-- The basic solution.
use Rattle.std.proofs.Common.{◌≡◌, ◌≢◌, ℕ, zero, suc, ◌<◌, ◌==◌, ℤ, pos, negsuc, ◌*ℤ◌, neg_ℤ, ◌≤ℤ◌, count_by, ap, refl, sym, ◌∙◌, arith, subst, inl, inr}
use Rattle.std.proofs.lemmas.Int.{by_lt_z}
use Rattle.wrp_sums.specs.Sums.{numbers_below}
use Rattle.wrp_sums.proofs.Integers.{linear, zero_times, times_zero, scale_le, cancel_le, neg_ℤ-*ℤ, *ℤ-neg_ℤ, one-*ℤ}
use Rattle.wrp_sums.proofs.SumsOver.{sum_over_only, count_once, sum_over-all_zero, sum_over-push}
use Rattle.wrp_sums.proofs.FirstNumbers.{below_of_inside, ascending-numbers_below, distinct_of_ascending, inside_numbers_below}
use Rattle.wrp_tableau.specs.Equations.{sign_of}
use Rattle.wrp_tableau.specs.Systems.{System, variables, row, basic, scale, value}
use Rattle.wrp_tableau.specs.Solutions.{left_side, Solves, IsSolution}
use Rattle.wrp_tableau.specs.Soundness.{IsSound}
use Rattle.wrp_simplex.specs.Steps.{pivot_entry, numerator, IsFeasible}
use Rattle.wrp_simplex.specs.BasicSolutions.{IsBasicSolution}

pub once_in_numbers : (n a : ℕ) → a < n → count_by (λ x. x == a) (numbers_below n) ≡ 1
once_in_numbers n a h = count_once a (numbers_below n) (distinct_of_ascending (numbers_below n) (ascending-numbers_below n)) (inside_numbers_below n a h)

module _ (t : System) (d : ℤ) (x : ℕ → ℤ) (sound : IsSound t) (is : IsBasicSolution t d x) where
  -- it solves each equation
  pub basic_solves : IsSolution t d x
  basic_solves r h =
      sum_over_only (λ j. (row t r).entry j *ℤ x j) (basic t r) (numbers_below (variables t)) (once_in_numbers (variables t) (basic t r) (sound.named r h))
      (λ j inside differs. elim (is.others j (below_of_inside (variables t) j inside)) [
        | inl (k, i, e) ↦ ap (λ (z : ℤ). z *ℤ x j) (subst (λ b. (row t r).entry b ≡ pos 0) e (sound.alone k r i h (λ same. differs (sym e ∙ ap (basic t) (sym same))))) ∙ zero_times (x j)
        | inr none ↦ ap (λ (z : ℤ). (row t r).entry j *ℤ z) none ∙ times_zero ((row t r).entry j)
      ])
      ∙ is.basics r h

  -- no variable has both a reduced cost and a number
  priced_out : (j : ℕ) → j < variables t → t.cost.entry j *ℤ x j ≡ pos 0
  priced_out j h = elim (is.others j h) [
    | inl (k, i, e) ↦ ap (λ (z : ℤ). z *ℤ x j) (subst (λ b. t.cost.entry b ≡ pos 0) e (sound.priced k i)) ∙ zero_times (x j)
    | inr none ↦ ap (λ (z : ℤ). t.cost.entry j *ℤ z) none ∙ times_zero (t.cost.entry j)
  ]

  -- where the cost row is solved, with the cost as its last number, the cost is the value over the scale
  pub basic_cost : Solves (suc (variables t)) d x t.cost → scale t *ℤ x (variables t) ≡ d *ℤ value t
  basic_cost solved =
      let n = variables t in
      let sides : left_side (suc n) t.cost x ≡ t.cost.entry n *ℤ x n =
      sum_over-push (λ j. t.cost.entry j *ℤ x j) (numbers_below n) n
      ∙ omega (arith, linear, sum_over-all_zero (λ j. t.cost.entry j *ℤ x j) (numbers_below n) (λ j inside. priced_out j (below_of_inside n j inside))) in
      omega (arith, linear, sides, solved, neg_ℤ-*ℤ (t.cost.entry n) (x n), *ℤ-neg_ℤ d t.cost.right)

-- a number whose product with p is d times b is at least 0 where b is, with the sign of p
not_negative : (p x b : ℤ) (d : ℕ) → 0 < d → p ≢ pos 0 → p *ℤ x ≡ pos d *ℤ b → pos 0 ≤ℤ (sign_of p *ℤ b) → pos 0 ≤ℤ x
not_negative (pos zero) x b d positive some e above = absurd (some refl)
not_negative (pos (suc p)) x b d positive some e above =
    cancel_le (suc p) (pos 0) x (omega arith) (omega (arith, linear, e, times_zero (pos (suc p)), scale_le d (pos 0) b (omega (arith, linear, one-*ℤ b)), times_zero (pos d)))
not_negative (negsuc p) x b d positive some e above =
    cancel_le (suc p) (pos 0) x (omega arith)
    (omega (arith, linear, e, times_zero (pos (suc p)), neg_ℤ-*ℤ (pos (suc p)) x, scale_le d (pos 0) (neg_ℤ b) (omega (arith, linear, neg_ℤ-*ℤ (pos 1) b, one-*ℤ b)), times_zero (pos d), *ℤ-neg_ℤ (pos d) b))

-- where no row is broken, no variable of the basic solution is below 0
pub basic_not_negative : (t : System) (d : ℕ) (x : ℕ → ℤ) → IsSound t → IsBasicSolution t (pos d) x → 0 < d → IsFeasible t → (j : ℕ) → j < variables t → pos 0 ≤ℤ x j
basic_not_negative t d x sound is positive whole j h = elim (is.others j h) [
  | inl (k, i, e) ↦ subst (λ j. pos 0 ≤ℤ x j) e
      (not_negative (pivot_entry t k) (x (basic t k)) (row t k).right d positive (sound.own k i) (is.basics k i)
      (by_lt_z (numerator t k) (pos 0) (λ below. absurd (whole k (record { there = i; negative = below }))) (λ above. above)))
  | inr none ↦ omega (arith, linear, none)
]
