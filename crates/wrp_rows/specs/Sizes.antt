-- How large the numbers of a row may be.
use Rattle.std.specs.Prelude.{ℕ, ◌^◌, ◌<◌, ◌≤◌, ℤ, List, unsigned_abs, AllPairs}
use Rattle.std.specs.List.{All}
use Rattle.wrp_rules.specs.Rows.{most_coefficient}
use Rattle.wrp_rows.specs.Pools.{SparseRow}

-- the greatest size of a right side
abbrev pub most_right_side : ℕ
most_right_side = 2 ^ 23

-- terms on the first arcs, by arc, at most one for each, with small coefficients
pub record AreSmallTerms (arcs : ℕ) (terms : List (ℕ × ℤ)) : Type 0 where
  pub ascending : AllPairs (λ t u. t.0 < u.0) terms
  pub within : All (λ t. t.0 < arcs) terms
  pub small : All (λ t. unsigned_abs t.1 ≤ most_coefficient) terms

pub record IsSmallRow (arcs : ℕ) (row : SparseRow) : Type 0 where
  pub terms : AreSmallTerms arcs row.terms
  pub right_side : unsigned_abs row.right_side ≤ most_right_side
