-- A linear program over arcs, the value of a choice of multipliers of its rows, and its solutions.
use Rattle.std.specs.Prelude.{ℕ, ◌*◌, ◌≤◌, cond, int_lt, ℤ, pos, ◌+ℤ◌, ◌-ℤ◌, ◌*ℤ◌, ◌≤ℤ◌, List, Contains}
use Rattle.wrp_sums.specs.Sums.{sum_over}

-- least cost of numbers of arcs, each from lo to hi, where each row's sum is at least its side
pub record Program : Type 0 where
  -- the arcs that may be used
  pub arcs : List ℕ
  -- the coefficient of a row at an arc
  pub coef : ℕ → ℕ → ℤ
  -- the right side of a row
  pub right_side : ℕ → ℤ
  -- the cost of one use of an arc
  pub cost : ℕ → ℕ
  -- the least and the greatest number of uses of an arc
  pub lo : ℕ → ℕ
  pub hi : ℕ → ℕ

-- the least of z x over lo ≤ x ≤ hi
abbrev pub least_term : ℤ → ℕ → ℕ → ℤ
least_term z lo hi = z *ℤ pos (cond (int_lt z (pos 0)) hi lo)

-- a number of each row, times the row's multiplier, summed, for pairs of a row and its multiplier
abbrev pub combine_rows : List (ℕ × ℕ) → (ℕ → ℤ) → ℤ
combine_rows multipliers number = sum_over (λ q. pos q.1 *ℤ number q.0) multipliers

-- the cost of arc a, times the denominator, less its coefficient in the combined rows
abbrev pub reduced_cost : Program → ℕ → List (ℕ × ℕ) → ℕ → ℤ
reduced_cost p denominator multipliers a =
    pos (denominator * p.cost a) -ℤ combine_rows multipliers (λ r. p.coef r a)

-- the least that the uses of arc a cost at that
abbrev pub least_cost : Program → ℕ → List (ℕ × ℕ) → ℕ → ℤ
least_cost p denominator multipliers a =
    least_term (reduced_cost p denominator multipliers a) (p.lo a) (p.hi a)

-- the bound that multipliers give for the cost, times the denominator
abbrev pub dual_value : Program → ℕ → List (ℕ × ℕ) → ℤ
dual_value p denominator multipliers =
    combine_rows multipliers p.right_side
    +ℤ sum_over (λ a. least_cost p denominator multipliers a) p.arcs

-- the left side of row r at the numbers x
abbrev pub row_sum : Program → ℕ → (ℕ → ℕ) → ℤ
row_sum p r x = sum_over (λ a. p.coef r a *ℤ pos (x a)) p.arcs

-- the cost of the numbers x
abbrev pub cost_sum : Program → (ℕ → ℕ) → ℤ
cost_sum p x = sum_over (λ a. pos (p.cost a * x a)) p.arcs

-- the numbers x over the denominator keep each arc's range and each row that has a multiplier
pub record IsSolution (p : Program) (denominator : ℕ) (multipliers : List (ℕ × ℕ)) (x : ℕ → ℕ)
    : Type 0 where
  pub at_least : (a : ℕ) → Contains p.arcs a → p.lo a * denominator ≤ x a
  pub at_most : (a : ℕ) → Contains p.arcs a → x a ≤ p.hi a * denominator
  pub meets : (q : ℕ × ℕ) → Contains multipliers q
      → (pos denominator *ℤ p.right_side q.0) ≤ℤ row_sum p q.0 x
