-- Leave to split a node.
use Rattle.std.specs.Prelude.{◌≡◌, ◌≢◌, ◌<◌, ◌/◌, ◌%◌, ◌⊎◌, ℕ, true, false, ⊤, List, length, Option, None, Some, IfSome}
use Rattle.wrp_rules.specs.declared.record.Record.{Record}
use Rattle.wrp_rules.specs.declared.record.Record.TheVariants.{Point, Blind}
use Rattle.wrp_rules.specs.Rules.{number_at}
use Rattle.wrp_writer.specs.Limits.{is_writable}
use Rattle.wrp_town.specs.declared.town.Town.{Town}
use Rattle.wrp_rows.specs.declared.point.Point.{Point as APoint}
use Rattle.wrp_rows.specs.Points.{IsPoint}
use Rattle.wrp_odd.specs.Points.{HasNumbers, denominator_of, numbers_of}
use Rattle.wrp_box.specs.declared.branch.Branch.{Branch}
use Rattle.wrp_box.specs.Points.{IsPointRecord}
use Rattle.wrp_box.specs.Branching.{IsPart}
use Rattle.wrp_licence.specs.Licences.{IsLicensed}
use Rattle.wrp_licence.specs.Roundings.{MeetsRoundings}
use Rattle.wrp_licence.specs.Causes.{most_round_cuts, cuts_since_split, HasBlindCause}
use Rattle.wrp_keep.specs.Keeps.{KeepState, broken_by}
use Rattle.wrp_engine.specs.declared.left.Left.{Left}
use Rattle.wrp_engine.specs.Searches.{now, at_node, IsOpenAt}
use Rattle.wrp_engine.specs.Offers.{Joins}

-- a Point of the node that is parted at the branch; it is licensed where it may stand, and else the
-- node may be split blindly
pub record IsLicence (keep : KeepState) (node : ℕ) (branch : Branch) (item : Record) : Type 0 where
  pub den : ℕ
  pub numbers : List (ℕ × ℕ)
  pub is : item ≡ Point node den numbers
  pub writable : is_writable item ≡ true
  pub part : IsPart keep.town den (number_at numbers) branch.arc
  pub floor : branch.k ≡ number_at numbers branch.arc / den
  pub licensed : broken_by item keep ≡ None → IsLicensed keep.town (now keep) node den numbers
  pub refused : (broken_by item keep ≡ None → ⊥) → HasBlindCause keep.town keep.records node

-- there is such a Point; or the node may be split blindly
abbrev pub MaySplit : KeepState → ℕ → Branch → Option Record → Type 0
MaySplit keep node branch None = HasBlindCause keep.town keep.records node
MaySplit keep node branch (Some item) = IsLicence keep node branch item

-- the Point meets the roundings of the node
abbrev pub MeetsAt : KeepState → ℕ → Record → Type 0
MeetsAt keep node (Point at den numbers) =
    MeetsRoundings keep.town (now keep) node den (number_at numbers)
MeetsAt keep node item = ⊤

-- it does where the run added less than 200 cuts since its last Split
abbrev pub IsRoundedLeave : KeepState → ℕ → Option Record → List Record → Type 0
IsRoundedLeave keep node leave added =
    cuts_since_split added < most_round_cuts → IfSome leave (MeetsAt keep node)

-- the leave joined the list; or a Blind did, where there is none or it breaks a rule
abbrev pub IsRefused : KeepState → Option Record → Type 0
IsRefused keep None = ⊤
IsRefused keep (Some item) = broken_by item keep ≡ None → ⊥

abbrev pub LeadsBy : ℕ → Option Record → KeepState → KeepState → Type 0
LeadsBy node leave old new =
    ((item : Record) × (leave ≡ Some item) × (broken_by item old ≡ None) × Joins item old new)
    ⊎ (IsRefused old leave × Joins (Blind node) old new)

-- a point of the town, with a number of the branch's arc
pub record IsSplitPoint (town : Town) (branch : Branch) (point : APoint) : Type 0 where
  pub is : IsPoint town point
  pub numbers : HasNumbers point
  pub arc : branch.arc < length point.at

-- the record of the point that is left, which is parted at the branch; none only where the list is
-- full of cuts, no point is left, or that isn't parted there
pub record IsLeaveOf (node : ℕ) (branch : Branch) (left : Left) (item : Record) : Type 0 where
  pub point : APoint
  pub is : left.point ≡ Some point
  pub room : left.full ≡ false
  pub record_of : IsPointRecord node point item
  pub part : numbers_of point branch.arc % denominator_of point ≢ 0

abbrev pub IsWholeAt : Branch → Left → Type 0
IsWholeAt branch left =
    IfSome left.point (λ p. numbers_of p branch.arc % denominator_of p ≡ 0)

abbrev pub HasLeave : ℕ → Branch → Left → Option Record → Type 0
HasLeave node branch left None = (left.full ≡ true) ⊎ IsWholeAt branch left
HasLeave node branch left (Some item) = IsLeaveOf node branch left item

-- the node is open still, and as it was
pub record KeepsNode (node : ℕ) (old new : KeepState) : Type 0 where
  pub opened : IsOpenAt new node
  pub same : at_node new node ≡ at_node old node
