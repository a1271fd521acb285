-- The sparse rows of a town before any cut.
use Rattle.std.specs.Prelude.{◌≡◌, ℕ, ◌<◌, true, if◌then◌else◌, nat_lt, ℤ, pos, List, [], ◌∷◌, ◌++◌, map, length, slice_index_or}
use Rattle.std.specs.List.{All, filter}
use Rattle.wrp_sums.specs.Sums.{coef_at}
use Rattle.wrp_town.specs.declared.town.Town.{Town}
use Rattle.wrp_town.specs.Arcs.{is_legal}
use Rattle.wrp_rules.specs.Rows.{balance_row}
use Rattle.wrp_pool.specs.declared.row.SparseRow.{SparseRow}
use Rattle.wrp_pool.specs.Pools.{AreSmallTerms}

-- no terms, at least 0
abbrev pub bare_row : SparseRow
bare_row = record { terms = []; right_side = pos 0 }

-- the row of this number, bare where there is none
abbrev pub row_in : List SparseRow → ℕ → SparseRow
row_in rows j = slice_index_or rows j bare_row

-- the row with one term more
abbrev pub with_term : SparseRow → ℕ × ℤ → SparseRow
with_term row term = record { terms = row.terms ++ term ∷ []; right_side = row.right_side }

-- the row of a demand: 1 on its legal arcs, at least 1
abbrev pub sparse_service : Town → List ℕ → SparseRow
sparse_service town demand =
    record { terms = map (λ arc. (arc, pos 1)) (filter (is_legal town) demand); right_side = pos 1 }

-- terms on the first n arcs
pub record AreTermsBelow (town : Town) (n : ℕ) (terms : List (ℕ × ℤ)) : Type 0 where
  pub are : AreSmallTerms town terms
  pub within : All (λ t. t.0 < n) terms

-- the balance row of junction j as far as the first n arcs
pub record IsBalanceBelow (town : Town) (n j : ℕ) (row : SparseRow) : Type 0 where
  pub coef : (arc : ℕ) → is_legal town arc ≡ true
      → coef_at row.terms arc ≡ (if nat_lt arc n then (balance_row town j).coef arc else pos 0)
  pub right_side : row.right_side ≡ pos 0
  pub terms : AreTermsBelow town n row.terms

-- one such row for each junction
pub record AreBalancesBelow (town : Town) (n : ℕ) (rows : List SparseRow) : Type 0 where
  pub count : length rows ≡ length town.junctions
  pub each : (j : ℕ) → j < length town.junctions → IsBalanceBelow town n j (row_in rows j)
