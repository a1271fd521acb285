-- Rows in one table: the terms of all rows, and of each row the places of its terms.
use Rattle.std.specs.Prelude.{◌≡◌, ℕ, ◌+◌, ◌*◌, ◌^◌, ◌≤◌, Bool, nat_lt, ℤ, pos, ◌+ℤ◌, ◌*ℤ◌, List, length, slice_index_or, slice_range, unsigned_abs, AllPairs}
use Rattle.std.specs.List.{All, list_all}
use Rattle.wrp_sums.specs.Sums.{coef_at}
use Rattle.wrp_sums.specs.Duality.{combine_rows}
use Rattle.wrp_rows.specs.declared.table.Span.{Span}
use Rattle.wrp_rows.specs.Pools.{SparseRow, sparse_at}

-- the row of a span of the terms
abbrev pub row_in : List (ℕ × ℤ) → Span → SparseRow
row_in terms span =
    record { terms = slice_range terms span.from span.to; right_side = span.right_side }

-- each span is within the terms, and before those that follow it
pub record AreSpans (terms : List (ℕ × ℤ)) (spans : List Span) : Type 0 where
  pub forward : All (λ s. s.from ≤ s.to) spans
  pub within : All (λ s. s.to ≤ length terms) spans
  pub apart : AllPairs (λ s t. s.to ≤ t.from) spans

-- the number of an arc
abbrev pub number_at : List ℤ → ℕ → ℤ
number_at numbers arc = slice_index_or numbers arc (pos 0)

-- each sum has grown by the coefficient of its arc in the terms, times the weight
pub record AreAdded (terms : List (ℕ × ℤ)) (weight : ℕ) (old new : List ℤ) : Type 0 where
  pub exact : (arc : ℕ)
      → number_at new arc ≡ number_at old arc +ℤ pos weight *ℤ coef_at terms arc
  pub size : (arc : ℕ)
      → unsigned_abs (number_at new arc) ≤ unsigned_abs (number_at old arc) + 2 ^ 80

-- a number of a row, times a weight of at most 2^60
pub record IsScaled (weight : ℕ) (number product : ℤ) : Type 0 where
  pub exact : product ≡ pos weight *ℤ number
  pub size : unsigned_abs product ≤ 2 ^ 83

-- the sums of all arcs are at most that in size
abbrev pub AreWithin : ℕ → List ℤ → Type 0
AreWithin most sums = (arc : ℕ) → unsigned_abs (number_at sums arc) ≤ most

-- each pair names a row that is there
abbrev pub name_rows : List SparseRow → List (ℕ × ℕ) → Bool
name_rows rows mult = list_all (λ q. nat_lt q.0 (length rows)) mult

-- the coefficient of an arc, and the right side, in the rows times their multipliers
abbrev pub combined_coef : List SparseRow → List (ℕ × ℕ) → ℕ → ℤ
combined_coef rows mult arc = combine_rows mult (λ i. coef_at (sparse_at rows i).terms arc)

abbrev pub combined_side : List SparseRow → List (ℕ × ℕ) → ℤ
combined_side rows mult = combine_rows mult (λ i. (sparse_at rows i).right_side)

-- the sums have the coefficients of these rows, and side is their right side
pub record AreCombined (rows : List SparseRow) (mult : List (ℕ × ℕ)) (sums : List ℤ) (side : ℤ)
    : Type 0 where
  pub coefs : (arc : ℕ) → number_at sums arc ≡ combined_coef rows mult arc
  pub right_side : side ≡ combined_side rows mult
  pub small_coefs : (arc : ℕ) → unsigned_abs (number_at sums arc) ≤ length mult * 2 ^ 80
  pub small_side : unsigned_abs side ≤ length mult * 2 ^ 83
