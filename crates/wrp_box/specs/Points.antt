-- The record of a point, and the one point of a box.
use Rattle.std.specs.Prelude.{◌≡◌, ℕ, ◌<◌, true, not, ◌==◌, cond, pos, ◌<ℤ◌, List, [], ◌∷◌, ◌++◌, map, filter, length}
use Rattle.std.specs.List.{range_with_len}
use Rattle.wrp_rules.specs.declared.record.Record.{Record}
use Rattle.wrp_rules.specs.declared.record.Record.TheVariants as records
use Rattle.wrp_rules.specs.Nodes.{Node, Standing, empty_value}
use Rattle.wrp_writer.specs.Limits.{is_writable}
use Rattle.wrp_rows.specs.declared.point.Bounds.{Bounds}
use Rattle.wrp_rows.specs.declared.point.Point.{Point}
use Rattle.wrp_rows.specs.Pools.{RowPool, HasRowsOf}
use Rattle.wrp_rows.specs.Points.{AreBoundsOf}
use Rattle.wrp_odd.specs.Points.{denominator_of, numbers_of}
use Rattle.wrp_box.specs.declared.single.Single.{Single}
use Rattle.wrp_box.specs.declared.single.Single.TheVariants.{Broken, Met}
use Rattle.wrp_box.specs.Relaxing.{IsPointIn}

-- the arcs whose number isn't 0, each with its number
abbrev pub pairs_of : Point → List (ℕ × ℕ)
pairs_of point =
    filter (λ q. not (q.1 == 0))
    (map (λ arc. (arc, numbers_of point arc)) (range_with_len 0 (length point.at)))

-- the pairs with one more, where its number isn't 0
abbrev pub with_number : List (ℕ × ℕ) → ℕ × ℕ → List (ℕ × ℕ)
with_number pairs q = pairs ++ cond (not (q.1 == 0)) (q ∷ []) []

-- the record of the point at a node, which may be written
pub record IsPointRecord (node : ℕ) (point : Point) (item : Record) : Type 0 where
  pub is : item ≡ records.Point node (denominator_of point) (pairs_of point)
  pub writable : is_writable item ≡ true

-- the point with the least number of each range
pub record IsLowest (bounds : Bounds) (point : Point) : Type 0 where
  pub den : point.den ≡ pos 1
  pub numbers : point.at ≡ map (λ n. pos n) bounds.lo

-- the multiplier of one row
abbrev pub alone : ℕ → List (ℕ × ℕ)
alone row = (row, 1) ∷ []

-- the only point breaks a row, whose multiplier empties the node; or it lies in the node
abbrev pub TellsOfNode : RowPool → Bounds → Single → Type 0
TellsOfNode pool bounds (Broken row) = (row < length pool.rows)
    × ((s : Standing) (node : Node) → HasRowsOf s pool → AreBoundsOf pool.town node bounds
    → pos 0 <ℤ empty_value pool.town s.rows node (alone row))
TellsOfNode pool bounds (Met point) = IsLowest bounds point
    × ((s : Standing) (node : Node) → HasRowsOf s pool → AreBoundsOf pool.town node bounds
    → IsPointIn pool.town s node point)
