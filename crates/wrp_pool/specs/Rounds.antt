-- The row of a rounding, made of combined rows.
use Rattle.std.specs.Prelude.{◌≡◌, ℕ, Bool, true, false, not, nat_le, ℤ, List, unsigned_abs}
use Rattle.wrp_sums.specs.Rounding.{ceil_div}
use Rattle.wrp_town.specs.declared.town.Town.{Town}
use Rattle.wrp_rules.specs.Rows.{Row, most_coefficient, is_wide}
use Rattle.wrp_pool.specs.declared.row.Pool.{Pool}
use Rattle.wrp_pool.specs.declared.tally.Tally.{Tally}
use Rattle.wrp_pool.specs.Tallies.{number_of}
use Rattle.wrp_pool.specs.Cuts.{terms_unless_zero, Gains}

-- a number divided and rounded up
abbrev pub quotient : ℕ → ℤ → ℤ
quotient divisor number = ceil_div number divisor

-- small enough for a rounding
abbrev pub is_small : ℤ → Bool
is_small number = nat_le (unsigned_abs number) most_coefficient

-- the coefficient of an arc in the rounding, and whether it is small enough
abbrev pub rounded_at : Tally → ℕ → ℕ → ℤ
rounded_at tally divisor arc = quotient divisor (number_of tally arc)

abbrev pub fits_at : Tally → ℕ → ℕ → Bool
fits_at tally divisor arc = is_small (rounded_at tally divisor arc)

-- the terms of these arcs
abbrev pub rounded_terms : Tally → ℕ → List ℕ → List (ℕ × ℤ)
rounded_terms tally divisor arcs =
    terms_unless_zero (rounded_at tally divisor) arcs

-- the numbers and a right side, divided and rounded up
abbrev pub rounding : Tally → ℕ → ℤ → Row
rounding tally divisor side =
    record { coef = rounded_at tally divisor; right_side = quotient divisor side }

-- the row was added, unless it is too large
pub record Rounds (town : Town) (row : Row) (taken : Bool) (old new : Pool) : Type 0 where
  pub width : taken ≡ not (is_wide town row)
  pub gains : taken ≡ true → Gains town row old new
  pub same : taken ≡ false → new ≡ old
