-- The value of multipliers, as the cost of certain numbers within the bounds less what these leave over in the rows.
use Rattle.std.proofs.Common.{◌≡◌, ℕ, ◌*◌, ◌≤◌, Bool, true, false, cond, int_lt, ℤ, pos, ◌-ℤ◌, ◌*ℤ◌, neg_ℤ, List, sym, ◌∙◌, arith}
use Rattle.wrp_sums.specs.Sums.{sum_over}
use Rattle.wrp_sums.specs.Duality.{Program, reduced_cost, dual_value, combine_rows, row_sum, cost_sum}
use Rattle.wrp_sums.proofs.Integers.{linear, +ℤ-*ℤ, neg_ℤ-*ℤ, *ℤ_assoc}
use Rattle.wrp_sums.proofs.SumsOver.{sum_over-*ℤ, sum_over-*ℤ_right, sum_over-ext, sum_over_exchange}
use Rattle.wrp_tableau.proofs.Differences.{sum_over_minus, *ℤ_minus}

-- the numbers at which each arc's least term is taken
abbrev pub cheapest : Program → ℕ → List (ℕ × ℕ) → ℕ → ℕ
cheapest p d mult a = cond (int_lt (reduced_cost p d mult a) (pos 0)) (p.hi a) (p.lo a)

pub cheapest_within : (p : Program) (d : ℕ) (mult : List (ℕ × ℕ)) (a : ℕ) → p.lo a ≤ p.hi a → (p.lo a ≤ cheapest p d mult a) × (cheapest p d mult a ≤ p.hi a)
cheapest_within p d mult a h = by (int_lt (reduced_cost p d mult a) (pos 0))
  where
    by : (t : Bool) → (p.lo a ≤ cond t (p.hi a) (p.lo a)) × (cond t (p.hi a) (p.lo a) ≤ p.hi a)
    by true = (h, omega arith)
    by false = (omega arith, h)

module _ (p : Program) (d : ℕ) (mult : List (ℕ × ℕ)) (x : ℕ → ℕ) where
  share : ℕ → ℤ
  share a = combine_rows mult (λ r. p.coef r a)

  rows_are_shares : sum_over (λ q. pos q.1 *ℤ row_sum p q.0 x) mult ≡ sum_over (λ a. share a *ℤ pos (x a)) p.arcs
  unfolding share
  rows_are_shares =
      sum_over-ext (λ q. pos q.1 *ℤ row_sum p q.0 x) (λ q. sum_over (λ a. (pos q.1 *ℤ p.coef q.0 a) *ℤ pos (x a)) p.arcs)
      (λ q. sym (sum_over-*ℤ (pos q.1) (λ a. p.coef q.0 a *ℤ pos (x a)) p.arcs)
      ∙ sum_over-ext (λ a. pos q.1 *ℤ (p.coef q.0 a *ℤ pos (x a))) (λ a. (pos q.1 *ℤ p.coef q.0 a) *ℤ pos (x a))
      (λ a. sym (*ℤ_assoc (pos q.1) (p.coef q.0 a) (pos (x a)))) p.arcs) mult
      ∙ sum_over_exchange (λ q a. (pos q.1 *ℤ p.coef q.0 a) *ℤ pos (x a)) mult p.arcs
      ∙ sum_over-ext (λ a. sum_over (λ q. (pos q.1 *ℤ p.coef q.0 a) *ℤ pos (x a)) mult)
      (λ a. sum_over (λ q. pos q.1 *ℤ p.coef q.0 a) mult *ℤ pos (x a))
      (λ a. sum_over-*ℤ_right (λ q. pos q.1 *ℤ p.coef q.0 a) (pos (x a)) mult) p.arcs

  split : (c : ℕ) (s : ℤ) (n : ℕ) → (pos (d * c) -ℤ s) *ℤ pos n ≡ pos d *ℤ pos (c * n) -ℤ s *ℤ pos n
  split c s n = omega (arith, linear, +ℤ-*ℤ (pos (d * c)) (neg_ℤ s) (pos n), neg_ℤ-*ℤ s (pos n), *ℤ_assoc (pos d) (pos c) (pos n))

  -- the reduced costs of x are its cost less the rows at x
  reduced_is : sum_over (λ a. reduced_cost p d mult a *ℤ pos (x a)) p.arcs ≡ pos d *ℤ cost_sum p x -ℤ sum_over (λ q. pos q.1 *ℤ row_sum p q.0 x) mult
  unfolding share
  reduced_is =
      sum_over-ext (λ a. reduced_cost p d mult a *ℤ pos (x a)) (λ a. pos d *ℤ pos (p.cost a * x a) -ℤ share a *ℤ pos (x a)) (λ a. split (p.cost a) (share a) (x a)) p.arcs
      ∙ sum_over_minus (λ a. pos d *ℤ pos (p.cost a * x a)) (λ a. share a *ℤ pos (x a)) p.arcs
      ∙ omega (arith, linear, sum_over-*ℤ (pos d) (λ a. pos (p.cost a * x a)) p.arcs, rows_are_shares)

-- what x leaves over in a row
abbrev pub left_over : Program → (ℕ → ℕ) → ℕ → ℤ
left_over p x r = row_sum p r x -ℤ p.right_side r

-- the value of multipliers is d times the cost of those numbers, less what they leave over in the rows
pub value_of_cheapest : (p : Program) (d : ℕ) (mult : List (ℕ × ℕ)) → let x = cheapest p d mult in dual_value p d mult ≡ pos d *ℤ cost_sum p x -ℤ combine_rows mult (left_over p x)
value_of_cheapest p d mult =
    let x = cheapest p d mult in
    let sides : combine_rows mult (left_over p x) ≡ sum_over (λ q. pos q.1 *ℤ row_sum p q.0 x) mult -ℤ combine_rows mult p.right_side =
    sum_over-ext (λ q. pos q.1 *ℤ left_over p x q.0) (λ q. pos q.1 *ℤ row_sum p q.0 x -ℤ pos q.1 *ℤ p.right_side q.0) (λ q. *ℤ_minus (pos q.1) (row_sum p q.0 x) (p.right_side q.0)) mult
    ∙ sum_over_minus (λ q. pos q.1 *ℤ row_sum p q.0 x) (λ q. pos q.1 *ℤ p.right_side q.0) mult in
    omega (arith, linear, reduced_is p d mult x, sides)
