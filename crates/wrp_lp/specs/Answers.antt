-- What each answer says of the run of a relaxation.
use Rattle.std.specs.Prelude.{ℕ, ◌≡◌, ◌≤◌, ◌<◌, ◌⊎◌, ⊤, ℤ, List, length, slice_index}
use Rattle.wrp_sums.specs.Duality.{Program}
use Rattle.wrp_rows.specs.declared.point.Bounds.{Bounds}
use Rattle.wrp_rows.specs.declared.point.Point.{Point}
use Rattle.wrp_rows.specs.Pools.{RowPool}
use Rattle.wrp_rows.specs.Points.{IsPoint, most_denominator}
use Rattle.wrp_tableau.specs.Systems.{System}
use Rattle.wrp_tableau.specs.Kept.{system}
use Rattle.wrp_simplex.specs.Steps.{IsFeasible, IsRun}
use Rattle.wrp_simplex.specs.Ends.{IsStuck, IsRefused, IsSpent}
use Rattle.wrp_lp.specs.declared.lp.Lp.{Lp}
use Rattle.wrp_lp.specs.declared.lp.Lp.TheVariants.{Optimal, Empty, Wide, Pivots}
use Rattle.wrp_lp.specs.Reading.{MakesWhole, IsLeastDen, point_numbers, optimal_multiplier, empty_multiplier, multipliers_of}
use Rattle.wrp_lp.specs.Wholes.{IsDen}
use Rattle.wrp_lp.specs.Programs.{program, free_program, denominator_of, IsOptimum, ShowsEmpty}
use Rattle.wrp_lp.specs.Relaxed.{relaxation}

-- the pivots that were done
abbrev pub steps_of : Lp → List (ℕ × ℕ)
steps_of (Optimal point mult table taken) = taken
steps_of (Empty mult taken) = taken
steps_of (Wide taken) = taken
steps_of (Pivots taken) = taken

-- the pivots are the run of the system, at most as many as the limit
pub record IsRunWithin (s : System) (limit : ℕ) (steps : List (ℕ × ℕ)) : Type 0 where
  pub run : IsRun s steps
  pub within : length steps ≤ limit

-- the point and the multipliers of the first lines are read off the system, over the least
-- denominator
pub record IsReadOff (s : System) (chosen : List ℕ) (point : Point) (mult : List (ℕ × ℤ))
    : Type 0 where
  pub range : IsDen point.den
  pub den : IsLeastDen s (length chosen) (denominator_of point)
  pub numbers : point.at ≡ point_numbers s (denominator_of point)
  pub multipliers : mult ≡ multipliers_of chosen (optimal_multiplier s (denominator_of point))

-- no row is broken, and no denominator of a point makes whole what is read off
pub record HasWideDen (s : System) (n : ℕ) : Type 0 where
  pub feasible : IsFeasible s
  pub wide : (d : ℕ) → 0 < d → MakesWhole s n d → most_denominator < d

-- a row has no dual simplex step, and the multipliers are read off it
pub record IsStuckWith (s : System) (chosen : List ℕ) (limit steps : ℕ) (mult : List (ℕ × ℤ))
    : Type 0 where
  pub row : ℕ
  pub stuck : IsStuck s limit steps row
  pub multipliers : mult ≡ multipliers_of chosen (empty_multiplier s row)

-- how the run ended at this system, and what was read off it
abbrev pub EndsAt : System → List ℕ → ℕ → Lp → Type 0
EndsAt s chosen limit (Optimal point mult table taken) =
    IsFeasible s × (system table ≡ s) × IsReadOff s chosen point mult
EndsAt s chosen limit (Empty mult taken) = IsStuckWith s chosen limit (length taken) mult
EndsAt s chosen limit (Wide taken) =
    IsRefused s limit (length taken) ⊎ HasWideDen s (length chosen)
EndsAt s chosen limit (Pivots taken) = IsSpent s limit (length taken)

-- the system that the relaxation over chosen rows and bounds starts from
abbrev pub relaxed : RowPool → List ℕ → Bounds → System
relaxed pool chosen bounds =
    relaxation pool.town pool.rows chosen (slice_index bounds.lo) (slice_index bounds.hi)

-- the program that it solves, and the same without costs
abbrev pub program_of : RowPool → Bounds → Program
program_of pool bounds =
    program pool.town pool.rows (slice_index bounds.lo) (slice_index bounds.hi)

abbrev pub free_program_of : RowPool → Bounds → Program
free_program_of pool bounds =
    free_program pool.town pool.rows (slice_index bounds.lo) (slice_index bounds.hi)

-- what an answer shows: an optimum of the program, or that it has no solution
abbrev pub Shows : RowPool → Bounds → Lp → Type 0
Shows pool bounds (Optimal point mult table taken) =
    IsPoint pool.town point × IsOptimum (program_of pool bounds) point mult
Shows pool bounds (Empty mult taken) = ShowsEmpty (free_program_of pool bounds) mult
Shows pool bounds (Wide taken) = ⊤
Shows pool bounds (Pivots taken) = ⊤
