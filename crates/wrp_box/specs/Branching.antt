-- Where a box is split.
use Rattle.std.specs.Prelude.{◌≡◌, ◌≢◌, ℕ, ◌*◌, ◌/◌, ◌%◌, ◌^◌, ◌<◌, ◌≤◌, true, slice_index, Option, Some}
use Rattle.wrp_town.specs.declared.town.Town.{Town}
use Rattle.wrp_town.specs.Arcs.{is_legal}
use Rattle.wrp_rows.specs.declared.point.Bounds.{Bounds}
use Rattle.wrp_rows.specs.declared.point.Point.{Point}
use Rattle.wrp_odd.specs.Points.{denominator_of, numbers_of}
use Rattle.wrp_box.specs.declared.branch.Branch.{Branch}

-- the branch parts the range of a legal arc
pub record IsBranch (town : Town) (bounds : Bounds) (branch : Branch) : Type 0 where
  pub legal : is_legal town branch.arc ≡ true
  pub low : slice_index bounds.lo branch.arc ≤ branch.k
  pub high : branch.k < slice_index bounds.hi branch.arc

-- no legal arc has two numbers in its range
abbrev pub HoldOne : Town → Bounds → Type 0
HoldOne town bounds = (arc : ℕ) → is_legal town arc ≡ true
    → slice_index bounds.lo arc ≡ slice_index bounds.hi arc

-- the numbers of a point lie within the bounds
pub record IsWithin (town : Town) (bounds : Bounds) (point : Point) : Type 0 where
  pub at_least : (arc : ℕ) → is_legal town arc ≡ true
      → slice_index bounds.lo arc * denominator_of point ≤ numbers_of point arc
  pub at_most : (arc : ℕ) → is_legal town arc ≡ true
      → numbers_of point arc ≤ slice_index bounds.hi arc * denominator_of point

-- the number of a legal arc isn't a multiple of the denominator
pub record IsPart (town : Town) (den : ℕ) (x : ℕ → ℕ) (arc : ℕ) : Type 0 where
  pub legal : is_legal town arc ≡ true
  pub part : x arc % den ≢ 0

-- the number of this arc in the point isn't whole
abbrev pub IsPartOf : Town → Point → ℕ → Type 0
IsPartOf town point arc = IsPart town (denominator_of point) (numbers_of point) arc

-- the branch parts the point: at an arc whose number isn't whole, at its quotient
pub record PartsAt (town : Town) (point : Point) (branch : Branch) : Type 0 where
  pub part : IsPartOf town point branch.arc
  pub floor : branch.k ≡ numbers_of point branch.arc / denominator_of point

-- where some number of the point isn't whole, there is a branch, and it parts the point
abbrev pub PartsPoint : Town → Option Branch → Point → Type 0
PartsPoint town branch point = (arc : ℕ) → IsPartOf town point arc
    → (b : Branch) × (branch ≡ Some b) × PartsAt town point b

-- the quotient of each number fits a branch
abbrev pub HasQuotients : Point → Type 0
HasQuotients point = (arc : ℕ) → numbers_of point arc / denominator_of point < 2 ^ 32
