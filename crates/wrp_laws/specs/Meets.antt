-- Sums over the legal arcs by counts, and the rows that the counts of a list of steps meet.
use Rattle.std.specs.Prelude.{ℕ, ℤ, pos, ◌*ℤ◌, ◌≤ℤ◌, List}
use Rattle.wrp_sums.specs.Sums.{sum_over}
use Rattle.wrp_town.specs.declared.street.Step.{Step}
use Rattle.wrp_town.specs.declared.town.Town.{Town}
use Rattle.wrp_town.specs.Arcs.{legal_arcs}
use Rattle.wrp_town.specs.Walks.{count_of}
use Rattle.wrp_rules.specs.Rows.{Row}

-- the sum of a number for each legal arc times the count of the arc
abbrev pub sum_of_counts : Town → (ℕ → ℕ) → (ℕ → ℤ) → ℤ
sum_of_counts town count f = sum_over (λ arc. f arc *ℤ pos (count arc)) (legal_arcs town)

-- the same with the counts of a list of steps
abbrev pub sum_of_uses : Town → List Step → (ℕ → ℤ) → ℤ
sum_of_uses town steps f = sum_of_counts town (count_of steps) f

-- the counts of the steps meet the row
abbrev pub MeetsRow : Town → List Step → Row → Type 0
MeetsRow town steps row = row.right_side ≤ℤ sum_of_uses town steps row.coef
