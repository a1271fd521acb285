-- Numbers and bounds of the arcs of a town.
use Rattle.std.specs.Prelude.{◌≡◌, ℕ, ◌*◌, ◌^◌, ◌≤◌, true, false, pos, ◌≤ℤ◌, length, slice_index, slice_index_or}
use Rattle.wrp_town.specs.declared.town.Town.{Town}
use Rattle.wrp_town.specs.Arcs.{is_legal, demands}
use Rattle.wrp_rules.specs.Nodes.{Node}
use Rattle.wrp_rows.specs.declared.point.Bounds.{Bounds}
use Rattle.wrp_rows.specs.declared.point.Point.{Point}

-- the greatest denominator of a point
abbrev pub most_denominator : ℕ
most_denominator = 2 ^ 60

-- a number of each arc, 0 where it is illegal, over a denominator
pub record IsPoint (town : Town) (point : Point) : Type 0 where
  pub positive : pos 1 ≤ℤ point.den
  pub low : point.den ≤ℤ pos most_denominator
  pub long : length point.at ≡ 2 * length town.streets
  pub illegal : (arc : ℕ) → is_legal town arc ≡ false → slice_index_or point.at arc (pos 0) ≡ pos 0

-- a least and a greatest number of uses of each arc, 0 where it is illegal, and no more than there
-- are demands
pub record AreBounds (town : Town) (bounds : Bounds) : Type 0 where
  pub long_lo : length bounds.lo ≡ 2 * length town.streets
  pub long_hi : length bounds.hi ≡ 2 * length town.streets
  pub ordered : (arc : ℕ) → slice_index bounds.lo arc ≤ slice_index bounds.hi arc
  pub low : (arc : ℕ) → slice_index bounds.hi arc ≤ length (demands town)
  pub illegal : (arc : ℕ) → is_legal town arc ≡ false → slice_index bounds.hi arc ≡ 0

-- the bounds are those of the node, at each legal arc
pub record AreBoundsOf (town : Town) (node : Node) (bounds : Bounds) : Type 0 where
  pub lo : (arc : ℕ) → is_legal town arc ≡ true → slice_index bounds.lo arc ≡ node.lo arc
  pub hi : (arc : ℕ) → is_legal town arc ≡ true → slice_index bounds.hi arc ≡ node.hi arc
