-- An optimum of a relaxation, as its answer states it.
use Rattle.std.specs.Prelude.{ℕ, ⊤, pos, List, []}
use Rattle.wrp_rows.specs.declared.point.Bounds.{Bounds}
use Rattle.wrp_rows.specs.declared.point.Point.{Point}
use Rattle.wrp_rows.specs.Pools.{RowPool}
use Rattle.wrp_rows.specs.Points.{AreBounds}
use Rattle.wrp_tableau.specs.Equations.{nothing}
use Rattle.wrp_tableau.specs.Systems.{System}
use Rattle.wrp_tableau.specs.Kept.{system}
use Rattle.wrp_simplex.specs.Steps.{after_steps}
use Rattle.wrp_lp.specs.declared.lp.Lp.{Lp}
use Rattle.wrp_lp.specs.declared.lp.Lp.TheVariants.{Optimal}
use Rattle.wrp_lp.specs.Answers.{relaxed, steps_of, EndsAt, Shows}

-- the answer is an optimum
abbrev pub IsOptimal : Lp → Type 0
IsOptimal (Optimal point mult table taken) = ⊤
IsOptimal lp = ⊥

-- the point of an optimum
abbrev pub point_of : Lp → Point
point_of (Optimal point mult table taken) = point
point_of lp = record { den = pos 1; at = [] }

-- the system after the pivots of an optimum
abbrev pub system_of : Lp → System
system_of (Optimal point mult table taken) = system table
system_of lp = record { width = 0; rows = []; basics = []; cost = nothing }

-- the answer is an optimum of the relaxation over chosen rows, within some bounds
pub record IsOptimumOver (pool : RowPool) (chosen : List ℕ) (lp : Lp) : Type 0 where
  pub optimal : IsOptimal lp
  pub bounds : Bounds
  pub limit : ℕ
  pub are_bounds : AreBounds pool.town bounds
  pub end : EndsAt (after_steps (relaxed pool chosen bounds) (steps_of lp)) chosen limit lp
  pub shows : Shows pool bounds lp
