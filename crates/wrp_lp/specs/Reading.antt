-- What is read off a system: the least denominator, the numbers of the arcs and the multipliers.
use Rattle.std.specs.Prelude.{ℕ, ◌+◌, ◌*◌, ◌<◌, ◌≤◌, ◌==◌, if◌then◌else◌, ℤ, pos, ◌*ℤ◌, int_div, unsigned_abs, List, map, length, slice_index}
use Rattle.std.specs.Int.{◌∣◌}
use Rattle.wrp_sums.specs.Sums.{sum_over, numbers_below}
use Rattle.wrp_tableau.specs.Systems.{System, row, basic, scale, reduced_cost}
use Rattle.wrp_simplex.specs.Steps.{pivot_entry}

-- den times p over q is a whole number
abbrev pub IsWhole : ℕ → ℤ → ℤ → Type 0
IsWhole den p q = unsigned_abs q ∣ den * unsigned_abs p

-- den times p over q, where that is whole
abbrev pub times : ℕ → ℤ → ℤ → ℤ
times den p q = int_div (pos den *ℤ p) q

-- the value of the basic variable of row r, times den, is whole
abbrev pub IsValueWhole : System → ℕ → ℕ → Type 0
IsValueWhole s den r = IsWhole den (row s r).right (pivot_entry s r)

-- the reduced cost of the slack of line i over the scale, times den, is whole
abbrev pub IsMultiplierWhole : System → ℕ → ℕ → Type 0
IsMultiplierWhole s den i = IsWhole den (reduced_cost s (s.width + i)) (scale s)

-- den makes whole the value of each structural variable and the multipliers of the first n lines
pub record MakesWhole (s : System) (n den : ℕ) : Type 0 where
  pub values : (r : ℕ) → r < length s.rows → basic s r < s.width → IsValueWhole s den r
  pub multipliers : (i : ℕ) → i < n → IsMultiplierWhole s den i

-- the least number from 1 on that does so
pub record IsLeastDen (s : System) (n den : ℕ) : Type 0 where
  pub some : 0 < den
  pub whole : MakesWhole s n den
  pub least : (d : ℕ) → 0 < d → MakesWhole s n d → den ≤ d

-- the number of a variable: den times its value, which is 0 where it isn't basic
abbrev pub number_of : System → ℕ → ℕ → ℤ
number_of s den variable =
    sum_over (λ r. if basic s r == variable
    then times den (row s r).right (pivot_entry s r) else pos 0) (numbers_below (length s.rows))

-- the numbers of the structural variables
abbrev pub point_numbers : System → ℕ → List ℤ
point_numbers s den = map (number_of s den) (numbers_below s.width)

-- where no row is broken: the multiplier of line i
abbrev pub optimal_multiplier : System → ℕ → ℕ → ℤ
optimal_multiplier s den i = times den (reduced_cost s (s.width + i)) (scale s)

-- where row r has no dual simplex step: the size of its entry at the slack of line i
abbrev pub empty_multiplier : System → ℕ → ℕ → ℤ
empty_multiplier s r i = pos (unsigned_abs ((row s r).entry (s.width + i)))

-- each chosen row with the multiplier of its line
abbrev pub multipliers_of : List ℕ → (ℕ → ℤ) → List (ℕ × ℤ)
multipliers_of chosen multiplier =
    map (λ i. (slice_index chosen i, multiplier i)) (numbers_below (length chosen))
