-- An answer of a relaxation, whatever its rows and bounds.
use Rattle.std.specs.Prelude.{ℕ}
use Rattle.wrp_rows.specs.declared.point.Bounds.{Bounds}
use Rattle.wrp_rows.specs.Pools.{RowPool}
use Rattle.wrp_lp.specs.declared.lp.Lp.{Lp}
use Rattle.wrp_box.specs.Relaxing.{IsRelaxed}

-- the relaxation over all rows of some pool answers so
abbrev pub IsAnswer : Lp → Type 0
IsAnswer lp = (pool : RowPool) × (bounds : Bounds) × (pivots : ℕ) × IsRelaxed pool bounds pivots lp
