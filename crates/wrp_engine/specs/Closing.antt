-- The only point of a node, and what shows that no cheaper tour is within.
use Rattle.std.specs.Prelude.{◌≡◌, ◌<◌, ◌≤◌, ◌^◌, ℕ, List, length, pos, ◌<ℤ◌}
use Rattle.wrp_town.specs.declared.street.Step.{Step}
use Rattle.wrp_town.specs.Arcs.{demands}
use Rattle.wrp_town.specs.Walks.{walk_cost}
use Rattle.wrp_rules.specs.declared.record.Record.{Record}
use Rattle.wrp_rules.specs.declared.record.Record.TheVariants.{Conn, Apart}
use Rattle.wrp_rules.specs.Nodes.{empty_value}
use Rattle.wrp_tour.specs.Tours.{IsLeanTour}
use Rattle.wrp_rows.specs.declared.point.Point.{Point}
use Rattle.wrp_odd.specs.Points.{numbers_of}
use Rattle.wrp_point_tour.specs.PointTours.{IsWhole}
use Rattle.wrp_keep.specs.Keeps.{KeepState}
use Rattle.wrp_progress.specs.Progress.{IsOnePoint, use_cost}
use Rattle.wrp_box.specs.Points.{alone}
use Rattle.wrp_box.specs.Relaxing.{IsPointIn}
use Rattle.wrp_engine.specs.Searches.{now, at_node}

-- the node's box holds one point, which is this one; its numbers are whole, none above the
-- number of demands, and it meets all rows
pub record IsOnlyPoint (keep : KeepState) (node : ℕ) (point : Point) : Type 0 where
  pub den : point.den ≡ pos 1
  pub whole : IsWhole point (length (demands keep.town))
  pub one : IsOnePoint keep.town (at_node keep node) (numbers_of point)
  pub is : IsPointIn keep.town (now keep) (at_node keep node) point

-- the multiplier of a row alone shows that the node's box holds no tour
pub record EmptiesNode (keep : KeepState) (node row : ℕ) : Type 0 where
  pub there : row < length (now keep).rows
  pub small : row < 2 ^ 32
  pub value : pos 0 <ℤ empty_value keep.town (now keep).rows (at_node keep node) (alone row)

-- a tour that costs no more than the only numbers of uses in the node's box
pub record IsEnding (keep : KeepState) (node : ℕ) (steps : List Step) : Type 0 where
  pub lean : IsLeanTour keep.town steps
  pub x : ℕ → ℕ
  pub one : IsOnePoint keep.town (at_node keep node) x
  pub cheap : walk_cost keep.town steps ≤ use_cost keep.town x

-- a connectivity cut, and what it says of a node in which no arc leaves its set
abbrev pub IsConn : Record → Type 0
IsConn (Conn r1 r2 set) = Unit {0}
IsConn item = ⊥

abbrev pub apart_of : ℕ → Record → Record
apart_of node (Conn r1 r2 set) = Apart node r1 r2 set
apart_of node item = item
