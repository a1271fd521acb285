-- What a rounding is judged by: its row, and how large its numbers are.
use Rattle.std.specs.Prelude.{◌≡◌, ℕ, ◌≤◌, true, false, ℤ, List, unsigned_abs}
use Rattle.wrp_town.specs.declared.town.Town.{Town}
use Rattle.wrp_town.specs.Arcs.{is_legal}
use Rattle.wrp_rules.specs.declared.record.Record.{Record}
use Rattle.wrp_rules.specs.declared.record.Record.TheVariants.{Round}
use Rattle.wrp_rules.specs.Rows.{Row, round_row, is_wide}
use Rattle.wrp_rules.specs.Nodes.{Standing}
use Rattle.wrp_rules.specs.Rules.{rows_are_there}
use Rattle.wrp_rows.specs.declared.point.Point.{Point}
use Rattle.wrp_rows.specs.Tables.{number_at}
use Rattle.wrp_odd.specs.Points.{Breaks}

-- the row with these coefficients and this right side
abbrev pub row_with : List ℤ → ℤ → Row
row_with sums side = record { coef = number_at sums; right_side = side }

-- the coefficients at legal arcs and the right side are at most that in size
pub record IsWithin (town : Town) (row : Row) (most : ℕ) : Type 0 where
  pub coefs : (arc : ℕ) → is_legal town arc ≡ true → unsigned_abs (row.coef arc) ≤ most
  pub side : unsigned_abs row.right_side ≤ most

-- that is the greatest size of these numbers
pub record IsSizeOf (town : Town) (row : Row) (size : ℕ) : Type 0 where
  pub within : IsWithin town row size
  pub least : (most : ℕ) → IsWithin town row most → size ≤ most

-- a rounding of rows that are there, with small numbers, that the point breaks
pub record KeepsAndBreaks
    (town : Town) (s : Standing) (point : Point) (divisor : ℕ) (mult : List (ℕ × ℕ)) : Type 0 where
  pub there : rows_are_there s mult ≡ true
  pub narrow : is_wide town (round_row s.rows divisor mult) ≡ false
  pub broken : Breaks town point (round_row s.rows divisor mult)

-- the divisor of a rounding
abbrev pub divisor_of : Record → ℕ
divisor_of (Round divisor mult) = divisor
divisor_of item = 0
