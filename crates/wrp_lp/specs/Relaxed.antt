-- The relaxation of a part of the search: its lines, its costs, and the system that it starts from.
use Rattle.std.specs.Prelude.{ℕ, ◌*◌, ◌==◌, if◌then◌else◌, ℤ, pos, negsuc, neg_ℤ, List, [], ◌∷◌, ◌++◌, map, length}
use Rattle.std.specs.List.{flat_map}
use Rattle.wrp_sums.specs.Sums.{coef_at}
use Rattle.wrp_town.specs.declared.town.Town.{Town}
use Rattle.wrp_town.specs.Arcs.{arcs, is_legal, legal_arcs, cost_or_zero}
use Rattle.wrp_rows.specs.Pools.{SparseRow, sparse_at}
use Rattle.wrp_tableau.specs.declared.line.Line.{Line}
use Rattle.wrp_tableau.specs.Systems.{System, start_of}

-- the number of structural variables: one for each arc
abbrev pub width : Town → ℕ
width town = 2 * length town.streets

-- the coefficient of a row at an arc, 0 where the arc is illegal
abbrev pub arc_coef : Town → SparseRow → ℕ → ℤ
arc_coef town row arc = if is_legal town arc then coef_at row.terms arc else pos 0

-- a row as a line
unfoldable pub row_line : Town → SparseRow → Line
row_line town row = record { coefs = map (arc_coef town row) (arcs town); rhs = row.right_side }

-- a coefficient at one arc alone
unfoldable pub arc_line : Town → ℕ → ℤ → ℤ → Line
arc_line town arc coef rhs =
    record { coefs = map (λ a. if a == arc then coef else pos 0) (arcs town); rhs = rhs }

-- the number of an arc is at least lo, and at most hi
abbrev pub lo_line : Town → (ℕ → ℕ) → ℕ → Line
lo_line town lo arc = arc_line town arc (pos 1) (pos (lo arc))

abbrev pub hi_line : Town → (ℕ → ℕ) → ℕ → Line
hi_line town hi arc = arc_line town arc (negsuc 0) (neg_ℤ (pos (hi arc)))

-- the two lines of each legal arc
unfoldable pub bound_lines : Town → (ℕ → ℕ) → (ℕ → ℕ) → List Line
bound_lines town lo hi =
    flat_map (λ arc. lo_line town lo arc ∷ hi_line town hi arc ∷ []) (legal_arcs town)

-- the chosen rows in order
unfoldable pub row_lines : Town → List SparseRow → List ℕ → List Line
row_lines town rows chosen = map (λ i. row_line town (sparse_at rows i)) chosen

-- the lines of a relaxation
abbrev pub lines_of : Town → List SparseRow → List ℕ → (ℕ → ℕ) → (ℕ → ℕ) → List Line
lines_of town rows chosen lo hi = row_lines town rows chosen ++ bound_lines town lo hi

-- the cost of each arc, 0 where it is illegal
unfoldable pub costs_of : Town → List ℤ
costs_of town = map (λ arc. pos (cost_or_zero town arc)) (arcs town)

-- the system that a relaxation starts from
abbrev pub relaxation : Town → List SparseRow → List ℕ → (ℕ → ℕ) → (ℕ → ℕ) → System
relaxation town rows chosen lo hi =
    start_of (width town) (lines_of town rows chosen lo hi) (costs_of town)
