-- The checker's own rows: sparse, with small numbers, one for each row that stands.
use Rattle.std.specs.Prelude.{◌≡◌, ℕ, ◌^◌, ◌≤◌, ◌==◌, Bool, true, nat_lt, ℤ, pos, List, [], length, slice_index_or, unsigned_abs}
use Rattle.std.specs.List.{All, AllZip, list_all, count_by}
use Rattle.wrp_sums.specs.Sums.{coef_at}
use Rattle.wrp_sums.specs.Duality.{combine_rows}
use Rattle.wrp_town.specs.declared.town.Town.{Town}
use Rattle.wrp_town.specs.Arcs.{is_legal}
use Rattle.wrp_rules.specs.Rows.{Row, most_coefficient}
use Rattle.wrp_pool.specs.declared.row.SparseRow.{SparseRow}
use Rattle.wrp_pool.specs.declared.row.Pool.{Pool}

-- the greatest size of a right side: that of a K-C row is below it
abbrev pub most_right_side : ℕ
most_right_side = 2 ^ 23

-- how many terms are on the arc
abbrev pub terms_on : List (ℕ × ℤ) → ℕ → ℕ
terms_on terms arc = count_by (λ t. t.0 == arc) terms

-- terms on legal arcs, at most one on each, with small coefficients
pub record AreSmallTerms (town : Town) (terms : List (ℕ × ℤ)) : Type 0 where
  pub once : (arc : ℕ) → terms_on terms arc ≤ 1
  pub legal : All (λ t. is_legal town t.0 ≡ true) terms
  pub small : All (λ t. unsigned_abs t.1 ≤ most_coefficient) terms

pub record IsSmallRow (town : Town) (row : SparseRow) : Type 0 where
  pub terms : AreSmallTerms town row.terms
  pub right_side : unsigned_abs row.right_side ≤ most_right_side

-- the sparse row says of each legal arc what the row says
pub record IsRow (town : Town) (sparse : SparseRow) (row : Row) : Type 0 where
  pub coef : (arc : ℕ) → is_legal town arc ≡ true → coef_at sparse.terms arc ≡ row.coef arc
  pub right_side : sparse.right_side ≡ row.right_side
  pub small : IsSmallRow town sparse

-- the pool has these rows, in this order
abbrev pub Holds : Town → Pool → List Row → Type 0
Holds town pool rows = AllZip (IsRow town) pool.rows rows

-- the sparse row of these terms
abbrev pub sparse_row : List (ℕ × ℤ) → ℤ → SparseRow
sparse_row terms right_side = record { terms = terms; right_side = right_side }

-- the sparse row of this number; 0 at least 0 where there is none
abbrev pub sparse_at : Pool → ℕ → SparseRow
sparse_at pool i = slice_index_or pool.rows i (sparse_row [] (pos 0))

-- the pool has the row of each pair
abbrev pub has_rows : Pool → List (ℕ × ℕ) → Bool
has_rows pool multipliers = list_all (λ q. nat_lt q.0 (length pool.rows)) multipliers

-- the coefficient of an arc, and the right side, in the combined rows
abbrev pub combined_coef : Pool → List (ℕ × ℕ) → ℕ → ℤ
combined_coef pool multipliers arc =
    combine_rows multipliers (λ i. coef_at (sparse_at pool i).terms arc)

abbrev pub combined_side : Pool → List (ℕ × ℕ) → ℤ
combined_side pool multipliers = combine_rows multipliers (λ i. (sparse_at pool i).right_side)
