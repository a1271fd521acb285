-- Lines by their numbers, and sums of lines.
use Rattle.std.specs.Prelude.{ℕ, ◌+◌, ◌<◌, ◌≡◌, ℤ, pos, ◌-ℤ◌, ◌*ℤ◌, neg_ℤ, List, [], length, slice_index_or, All}
use Rattle.wrp_sums.specs.Sums.{sum_over, numbers_below}
use Rattle.wrp_tableau.specs.declared.line.Line.{Line}
use Rattle.wrp_tableau.specs.Equations.{Equation}
use Rattle.wrp_tableau.specs.Systems.{System, scale, value, reduced_cost}

abbrev pub no_line : Line
no_line = record { coefs = []; rhs = pos 0 }

abbrev pub line_at : List Line → ℕ → Line
line_at lines i = slice_index_or lines i no_line

-- each line has so many coefficients
abbrev pub HaveWidth : ℕ → List Line → Type 0
HaveWidth width lines = All (λ line. length line.coefs ≡ width) lines

-- the sum of the first `width` coefficients times x
unfoldable pub line_sum : ℕ → List ℤ → (ℕ → ℤ) → ℤ
line_sum width coefs x =
    sum_over (λ j. slice_index_or coefs j (pos 0) *ℤ x j) (numbers_below width)

-- the right sides of the lines, each times its multiplier, summed
abbrev pub combined_rhs : List Line → (ℕ → ℤ) → ℤ
combined_rhs lines multiplier =
    sum_over (λ i. multiplier i *ℤ (line_at lines i).rhs) (numbers_below (length lines))

-- the coefficients at j of the lines, each times its multiplier, summed
abbrev pub combined_coef : List Line → (ℕ → ℤ) → ℕ → ℤ
combined_coef lines multiplier j =
    sum_over (λ i. multiplier i *ℤ slice_index_or (line_at lines i).coefs j (pos 0))
    (numbers_below (length lines))

-- the entries of an equation in the columns of the slacks
abbrev pub slack_entry : ℕ → Equation → ℕ → ℤ
slack_entry width e i = e.entry (width + i)

-- the equation is the sum of the lines, each times the entry of its slack, negated
pub record IsCombination (width : ℕ) (lines : List Line) (e : Equation) : Type 0 where
  pub right : e.right ≡ neg_ℤ (combined_rhs lines (slack_entry width e))
  pub entry : (j : ℕ) → j < width
      → e.entry j ≡ neg_ℤ (combined_coef lines (slack_entry width e) j)

-- the value is the sum of the right sides, each times the reduced cost of its slack, and a reduced
-- cost is the scale times the cost, less the sum of the coefficients so
pub record IsPriced (width : ℕ) (lines : List Line) (costs : List ℤ) (s : System) : Type 0 where
  pub value : value s ≡ combined_rhs lines (slack_entry width s.cost)
  pub reduced : (j : ℕ) → j < width → reduced_cost s j
      ≡ scale s *ℤ slice_index_or costs j (pos 0)
      -ℤ combined_coef lines (slack_entry width s.cost) j
