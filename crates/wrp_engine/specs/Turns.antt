-- What the last round of a turn leaves of its node.
use Rattle.std.specs.Prelude.{◌≡◌, ◌<◌, ◌≤◌, ◌*◌, ◌⊎◌, ℕ, true, false, List, None, Some, IfSome}
use Rattle.wrp_rules.specs.declared.record.Record.{Record}
use Rattle.wrp_laws.specs.Points.{price}
use Rattle.wrp_rows.specs.declared.point.Point.{Point}
use Rattle.wrp_odd.specs.Points.{denominator_of, numbers_of}
use Rattle.wrp_conn.specs.Conns.{IsConnected}
use Rattle.wrp_minodd.specs.Answers.{MeetsOdd}
use Rattle.wrp_point_tour.specs.PointTours.{IsTourPoint}
use Rattle.wrp_progress.specs.Progress.{use_cost}
use Rattle.wrp_box.specs.Relaxing.{IsPointIn}
use Rattle.wrp_licence.specs.Hard.{IsHard}
use Rattle.wrp_licence.specs.Roundings.{MeetsRoundings}
use Rattle.wrp_licence.specs.Causes.{most_cuts, most_round_cuts, cuts_of, cuts_since_split}
use Rattle.wrp_keep.specs.Keeps.{KeepState}
use Rattle.wrp_engine.specs.declared.left.Left.{Left}
use Rattle.wrp_engine.specs.Searches.{now, at_node, IsOpenAt}
use Rattle.wrp_engine.specs.Additions.{AddsCuts}

-- the node's bound is what the point costs, rounded up; or the node is hard
abbrev pub CostsBound : KeepState → ℕ → Point → Type 0
CostsBound keep node point =
    (price keep.town (denominator_of point) (numbers_of point) ≡ (at_node keep node).bound)
    ⊎ IsHard keep.town (now keep) node

-- where the point's numbers are those of a tour, one that costs no more stands
abbrev pub HasTourNear : KeepState → Point → Type 0
HasTourNear keep point = IsTourPoint keep.town point
    → (upper : ℕ) × ((now keep).upper ≡ Some upper)
    × (upper * denominator_of point ≤ use_cost keep.town (numbers_of point))

-- no cut that is looked for cuts off the point, which costs the node's bound
pub record IsIdle (keep : KeepState) (node : ℕ) (point : Point) : Type 0 where
  pub costs : CostsBound keep node point
  pub conns : IsConnected keep.town point
  pub odds : MeetsOdd keep.town point
  pub near : HasTourNear keep point

-- a point of the node, behind which the list is full of cuts or which no cut cuts off; or none, and
-- the node is hard
pub record IsLeft (keep : KeepState) (node : ℕ) (left : Left) : Type 0 where
  pub none : left.point ≡ None → IsHard keep.town (now keep) node
  pub within : IfSome left.point (IsPointIn keep.town (now keep) (at_node keep node))
  pub filled : left.full ≡ true → cuts_of keep.records ≡ most_cuts
  pub idle : left.full ≡ false → IfSome left.point (IsIdle keep node)

-- the point meets the roundings of the node, unless the list is full of cuts
abbrev pub MeetsLeft : KeepState → ℕ → Left → Type 0
MeetsLeft keep node left = left.full ≡ false → IfSome left.point (λ p.
    MeetsRoundings keep.town (now keep) node (denominator_of p) (numbers_of p))

-- it does where the node is open and the run added less than 200 cuts since its last Split
abbrev pub IsRoundedLeft : KeepState → ℕ → Left → List Record → Type 0
IsRoundedLeft keep node left added = IsOpenAt keep node
    → cuts_since_split added < most_round_cuts → MeetsLeft keep node left

-- rounds that added a cut, and a last one
pub record EndsRounds (old new : KeepState) (node : ℕ) (left : Left) : Type 0 where
  pub before : ℕ
  pub adds : AddsCuts before 2 1 old new
  pub leaves : IsOpenAt new node → IsLeft new node left
  pub rounded : IsOpenAt new node → before < most_round_cuts → MeetsLeft new node left
