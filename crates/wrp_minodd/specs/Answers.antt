-- What the search for odd cuts decides.
use Rattle.std.specs.Prelude.{ℕ, List}
use Rattle.wrp_town.specs.declared.town.Town.{Town}
use Rattle.wrp_rules.specs.Rows.{odd_row}
use Rattle.wrp_laws.specs.Points.{MeetsOver}
use Rattle.wrp_rows.specs.declared.point.Point.{Point}
use Rattle.wrp_odd.specs.Points.{denominator_of, numbers_of}
use Rattle.wrp_odd.specs.Found.{IsOddSet}

-- the point meets the odd row of every set that an odd number of demands cross
abbrev pub MeetsOdd : Town → Point → Type 0
MeetsOdd town point = (set : List ℕ) → IsOddSet town set
    → MeetsOver town (denominator_of point) (numbers_of point) (odd_row town set)
