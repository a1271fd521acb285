-- The linear program that a relaxation solves, its optimum, and what shows that it has no solution.
use Rattle.std.specs.Prelude.{ℕ, ◌≡◌, ℤ, pos, ◌≤ℤ◌, ◌<ℤ◌, unsigned_abs, List, map, slice_index_or, All}
use Rattle.wrp_sums.specs.Sums.{coef_at}
use Rattle.wrp_sums.specs.Duality.{Program, IsSolution, dual_value, cost_sum}
use Rattle.wrp_town.specs.declared.town.Town.{Town}
use Rattle.wrp_town.specs.Arcs.{legal_arcs, cost_or_zero}
use Rattle.wrp_rows.specs.Pools.{SparseRow, sparse_at}
use Rattle.wrp_rows.specs.declared.point.Point.{Point}

-- the cheapest numbers of the legal arcs within bounds that meet rows as they are kept
abbrev pub program : Town → List SparseRow → (ℕ → ℕ) → (ℕ → ℕ) → Program
program town rows lo hi = record {
  arcs = legal_arcs town;
  coef = λ i. coef_at (sparse_at rows i).terms;
  right_side = λ i. (sparse_at rows i).right_side;
  cost = cost_or_zero town;
  lo = lo;
  hi = hi;
}

-- the same with every cost 0
abbrev pub free_program : Town → List SparseRow → (ℕ → ℕ) → (ℕ → ℕ) → Program
free_program town rows lo hi = record (program town rows lo hi) { cost = λ arc. 0 }

-- multipliers that aren't below 0, as natural numbers
abbrev pub sizes : List (ℕ × ℤ) → List (ℕ × ℕ)
sizes mult = map (λ q. (q.0, unsigned_abs q.1)) mult

abbrev pub ArePositive : List (ℕ × ℤ) → Type 0
ArePositive mult = All (λ q. pos 0 ≤ℤ q.1) mult

-- the denominator of a point, and its numbers
abbrev pub denominator_of : Point → ℕ
denominator_of point = unsigned_abs point.den

abbrev pub numbers_of : Point → ℕ → ℕ
numbers_of point arc = unsigned_abs (slice_index_or point.at arc (pos 0))

-- the point solves the program, with each row that has a multiplier, and costs as much as the
-- multipliers show that each solution does
pub record IsOptimum (p : Program) (point : Point) (mult : List (ℕ × ℤ)) : Type 0 where
  pub not_negative : All (λ z. pos 0 ≤ℤ z) point.at
  pub solution : IsSolution p (denominator_of point) (sizes mult) (numbers_of point)
  pub positive : ArePositive mult
  pub value : dual_value p (denominator_of point) (sizes mult) ≡ cost_sum p (numbers_of point)

-- the multipliers show that no numbers solve the program
pub record ShowsEmpty (p : Program) (mult : List (ℕ × ℤ)) : Type 0 where
  pub positive : ArePositive mult
  pub value : pos 0 <ℤ dual_value p 1 (sizes mult)
