-- Solutions of the equations of a system, in numbers over a denominator.
use Rattle.std.specs.Prelude.{ℕ, ◌<◌, ◌≡◌, ℤ, pos, ◌+ℤ◌, ◌*ℤ◌, List, length, slice_index_or, ◌↔◌}
use Rattle.wrp_sums.specs.Sums.{sum_over, numbers_below}
use Rattle.wrp_tableau.specs.Equations.{Equation}
use Rattle.wrp_tableau.specs.Systems.{System, variables, row, scale, value}

-- the left side of an equation over n numbers at x
abbrev pub left_side : ℕ → Equation → (ℕ → ℤ) → ℤ
left_side n e x = sum_over (λ j. e.entry j *ℤ x j) (numbers_below n)

-- x over the denominator d solves an equation over n numbers
abbrev pub Solves : ℕ → ℤ → (ℕ → ℤ) → Equation → Type 0
Solves n d x e = left_side n e x ≡ d *ℤ e.right

-- x over d solves each equation
abbrev pub IsSolution : System → ℤ → (ℕ → ℤ) → Type 0
IsSolution s d x = (r : ℕ) → r < length s.rows → Solves (variables s) d x (row s r)

-- the equations of two systems have the same solutions
abbrev pub HaveSameSolutions : System → System → Type 0
HaveSameSolutions s t = (d : ℤ) (x : ℕ → ℤ) → IsSolution s d x ↔ IsSolution t d x

-- the cost of x
abbrev pub cost_at : List ℤ → (ℕ → ℤ) → ℤ
cost_at costs x =
    sum_over (λ j. slice_index_or costs j (pos 0) *ℤ x j) (numbers_below (length costs))

-- for each solution the scale times the cost is the value and the sum of the reduced costs times
-- the variables
abbrev pub HasCosts : List ℤ → System → Type 0
HasCosts costs s = (d : ℤ) (x : ℕ → ℤ) → IsSolution s d x
    → scale s *ℤ cost_at costs x ≡ d *ℤ value s +ℤ left_side (variables s) s.cost x
