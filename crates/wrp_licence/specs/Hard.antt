-- Hard nodes: what is read off the end of their run fits no record.
use Rattle.std.specs.Prelude.{ℕ, ◌<◌, ◌⊎◌, pos, List, length}
use Rattle.wrp_town.specs.declared.town.Town.{Town}
use Rattle.wrp_rules.specs.Nodes.{Standing}
use Rattle.wrp_tableau.specs.Systems.{System}
use Rattle.wrp_simplex.specs.Steps.{IsFeasible}
use Rattle.wrp_simplex.specs.Ends.{IsStuck, IsRefused, IsSpent}
use Rattle.wrp_lp.specs.Reading.{MakesWhole, IsLeastDen, optimal_multiplier, empty_multiplier, multipliers_of}
use Rattle.wrp_bound.specs.Mults.{most_denominator, FitABound}
use Rattle.wrp_licence.specs.Runs.{row_numbers, most_pivots, IsRunAt, end_at}

-- the least denominator of what is read off is greater than that of any bound
abbrev pub HasLargeDen : System → ℕ → Type 0
HasLargeDen s n = (den : ℕ) → 0 < den → MakesWhole s n den → most_denominator < den

-- over the least denominator, it and the multipliers of the rows fit no bound
pub record HasUnfitMultipliers (s : System) (chosen : List ℕ) : Type 0 where
  pub den : ℕ
  pub least : IsLeastDen s (length chosen) den
  pub unfit : FitABound (pos den) (multipliers_of chosen (optimal_multiplier s den)) → ⊥

-- no row is broken, and what is read off fits no bound
pub record IsUnfitBound (s : System) (chosen : List ℕ) : Type 0 where
  pub feasible : IsFeasible s
  pub unfit : HasLargeDen s (length chosen) ⊎ HasUnfitMultipliers s chosen

-- the leaving row has no dual simplex step, and the multipliers that are read off it fit no record
pub record IsUnfitEmpty (s : System) (chosen : List ℕ) (steps : ℕ) : Type 0 where
  pub row : ℕ
  pub stuck : IsStuck s most_pivots steps row
  pub unfit : FitABound (pos 1) (multipliers_of chosen (empty_multiplier s row)) → ⊥

-- so many steps led to this system, and nothing fits a record there: the limit is reached and a
-- row is broken still, or the next step is refused as wide, or the numbers are too great or too many
abbrev pub EndsHard : System → List ℕ → ℕ → Type 0
EndsHard s chosen steps =
    IsSpent s most_pivots steps ⊎ IsRefused s most_pivots steps ⊎ IsUnfitBound s chosen
    ⊎ IsUnfitEmpty s chosen steps

-- the node is hard at what stands: its run ends so
pub record IsHard (town : Town) (s : Standing) (node : ℕ) : Type 0 where
  pub steps : List (ℕ × ℕ)
  pub run : IsRunAt town s node steps
  pub ends : EndsHard (end_at town s node steps) (row_numbers s) (length steps)
