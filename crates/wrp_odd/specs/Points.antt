-- The numbers of a point over its denominator, and the rows that it breaks.
use Rattle.std.specs.Prelude.{ℕ, ◌^◌, pos, ◌≤ℤ◌, unsigned_abs, slice_index_or}
use Rattle.std.specs.List.{All}
use Rattle.wrp_town.specs.declared.town.Town.{Town}
use Rattle.wrp_rules.specs.Rows.{Row}
use Rattle.wrp_laws.specs.Points.{MeetsOver}
use Rattle.wrp_rows.specs.declared.point.Point.{Point}

-- the denominator of a point, and its numbers
abbrev pub denominator_of : Point → ℕ
denominator_of point = unsigned_abs point.den

abbrev pub numbers_of : Point → ℕ → ℕ
numbers_of point arc = unsigned_abs (slice_index_or point.at arc (pos 0))

-- the greatest number of a point
abbrev pub most_number : ℕ
most_number = 2 ^ 72

-- each number is from 0 to that
abbrev pub HasNumbers : Point → Type 0
HasNumbers point = All (λ z. (pos 0 ≤ℤ z) × (z ≤ℤ pos most_number)) point.at

-- the point breaks the row
abbrev pub Breaks : Town → Point → Row → Type 0
Breaks town point row = MeetsOver town (denominator_of point) (numbers_of point) row → ⊥
