-- The value of multipliers of rows over bounds, with the costs of the arcs times a factor.
use Rattle.std.specs.Prelude.{ℕ, ◌*◌, ◌^◌, ℤ, pos, ◌+ℤ◌, ◌-ℤ◌, List, slice_index}
use Rattle.wrp_sums.specs.Sums.{sum_over}
use Rattle.wrp_sums.specs.Duality.{least_term}
use Rattle.wrp_town.specs.declared.town.Town.{Town}
use Rattle.wrp_town.specs.Arcs.{legal_arcs, cost_or_zero}
use Rattle.wrp_rows.specs.declared.point.Bounds.{Bounds}
use Rattle.wrp_rows.specs.Pools.{RowPool}
use Rattle.wrp_rows.specs.Tables.{combined_coef, combined_side}

-- the least that the uses of an arc cost, less what they are worth in the combined rows
abbrev pub arc_value : Town → ℕ → Bounds → (ℕ → ℤ) → ℕ → ℤ
arc_value town factor bounds combined arc =
    least_term (pos (factor * cost_or_zero town arc) -ℤ combined arc)
    (slice_index bounds.lo arc) (slice_index bounds.hi arc)

-- the right side of the combined rows, and that of each legal arc
abbrev pub pool_value : RowPool → ℕ → Bounds → List (ℕ × ℕ) → ℤ
pool_value pool factor bounds mult =
    combined_side pool.rows mult
    +ℤ sum_over (arc_value pool.town factor bounds (combined_coef pool.rows mult))
    (legal_arcs pool.town)

-- the greatest size of a combined coefficient, of a cost times a factor, and of the value of an arc
abbrev pub most_combined : ℕ
most_combined = 2 ^ 92

abbrev pub most_reduced : ℕ
most_reduced = 2 ^ 93

abbrev pub most_arc_value : ℕ
most_arc_value = 4000 * 2 ^ 93

-- the greatest size of a value
abbrev pub most_value : ℕ
most_value = 2 ^ 118
