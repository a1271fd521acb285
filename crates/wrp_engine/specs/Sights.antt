-- What a round sees of a node, and tells of it.
use Rattle.std.specs.Prelude.{◌≡◌, ◌⊎◌, ◌≤◌, ℕ, Bool, true, false, List, [], length, pos, ◌<ℤ◌, Option, None, Some, IfSome}
use Rattle.std.specs.List.{All, count_by}
use Rattle.wrp_town.specs.declared.town.Town.{Town}
use Rattle.wrp_rules.specs.declared.record.Record.{Record}
use Rattle.wrp_rules.specs.declared.record.Record.TheVariants.{Bound, Empty}
use Rattle.wrp_rules.specs.Nodes.{Standing, standing, node_at, bound_at, empty_value}
use Rattle.wrp_rules.specs.Rules.{is_cut, rows_are_there}
use Rattle.wrp_laws.specs.Points.{price}
use Rattle.wrp_rows.specs.declared.point.Point.{Point}
use Rattle.wrp_lp.specs.declared.lp.Lp.{Lp}
use Rattle.wrp_lp.specs.declared.lp.Lp.TheVariants.{Optimal}
use Rattle.wrp_odd.specs.Points.{denominator_of, numbers_of}
use Rattle.wrp_conn.specs.Conns.{IsConnected}
use Rattle.wrp_minodd.specs.Answers.{MeetsOdd}
use Rattle.wrp_box.specs.Records.{IsShownRecord}
use Rattle.wrp_box.specs.Relaxing.{IsPointIn}
use Rattle.wrp_licence.specs.Hard.{IsHard}
use Rattle.wrp_licence.specs.Roundings.{MeetsRoundings}
use Rattle.wrp_licence.specs.Causes.{most_cuts, most_round_cuts, cuts_of}
use Rattle.wrp_keep.specs.Keeps.{KeepState}
use Rattle.wrp_engine.specs.declared.left.RoundEnd.{RoundEnd}
use Rattle.wrp_engine.specs.declared.left.RoundEnd.TheVariants.{Cut, Last}
use Rattle.wrp_engine.specs.declared.sight.Sight.{Sight}
use Rattle.wrp_engine.specs.Searches.{now, at_node, IsOpenAt}
use Rattle.wrp_engine.specs.Cuts.{IsUseful}
use Rattle.wrp_engine.specs.Additions.{AddsCuts, AddsOnlyCuts}
use Rattle.wrp_engine.specs.Turns.{CostsBound, HasTourNear, IsLeft, MeetsLeft}

-- the point of an optimum, where the answer is one
abbrev pub shown_point : Lp → Option Point
shown_point (Optimal point mult table taken) = Some point
shown_point lp = None

-- ---- what is told of a node

-- a bound of the node that is what the point costs, rounded up
pub record TellsPrice (town : Town) (s : Standing) (node : ℕ) (point : Point) (item : Record)
    : Type 0 where
  pub den : ℕ
  pub mult : List (ℕ × ℕ)
  pub is : item ≡ Bound node den mult
  pub there : rows_are_there s mult ≡ true
  pub value : bound_at town s node den mult ≡ price town (denominator_of point) (numbers_of point)

-- that no tour is within the node
pub record TellsEmpty (town : Town) (s : Standing) (node : ℕ) (item : Record) : Type 0 where
  pub mult : List (ℕ × ℕ)
  pub is : item ≡ Empty node mult
  pub there : rows_are_there s mult ≡ true
  pub value : pos 0 <ℤ empty_value town s.rows (node_at town s node) mult

-- the price of a point; where there is none, that no tour is within
abbrev pub Tells : Town → Standing → ℕ → Option Point → Record → Type 0
Tells town s node (Some point) item = TellsPrice town s node point item
Tells town s node None item = TellsEmpty town s node item

-- it is shown so; or the node is hard
abbrev pub IsShownOf : Town → Standing → ℕ → Option Point → Option Record → Type 0
IsShownOf town s node point shown =
    ((item : Record) × (shown ≡ Some item) × Tells town s node point item) ⊎ IsHard town s node

-- ---- what is seen of a node

-- the rows, the number of cuts, and the box of the node stayed
pub record KeepsBox (town : Town) (node : ℕ) (old new : Standing) : Type 0 where
  pub rows : new.rows ≡ old.rows
  pub cuts : count_by is_cut new.records ≡ count_by is_cut old.records
  pub lo : (node_at town new node).lo ≡ (node_at town old node).lo
  pub hi : (node_at town new node).hi ≡ (node_at town old node).hi

-- no connectivity row and no odd row is broken, and in the first 200 rounds no rounding
pub record IsUncut (town : Town) (s : Standing) (node round : ℕ) (point : Point) : Type 0 where
  pub conns : IsConnected town point
  pub odds : MeetsOdd town point
  pub roundings : round ≤ most_round_cuts
      → MeetsRoundings town s node (denominator_of point) (numbers_of point)

-- a point of the node, and cuts that it breaks; without cuts, none is broken that is looked for
pub record IsView (town : Town) (s : Standing) (node round : ℕ) (cuts : List Record) (point : Point)
    : Type 0 where
  pub within : IsPointIn town s (node_at town s node) point
  pub useful : All (IsUseful town s point) cuts
  pub uncut : cuts ≡ [] → IsUncut town s node round point

abbrev pub IsSeen : Town → Standing → ℕ → ℕ → Option Point → List Record → Type 0
IsSeen town s node round (Some point) cuts = IsView town s node round cuts point
IsSeen town s node round None cuts = cuts ≡ []

-- what is shown of the node, and what is seen of it at each list with the same rows and box
pub record IsSight (town : Town) (records : List Record) (node round : ℕ) (sight : Sight)
    : Type 0 where
  pub few : length sight.cuts.items ≤ most_round_cuts
  pub written : IfSome sight.shown (IsShownRecord node)
  pub told : IsShownOf town (standing town records) node sight.point sight.shown
  pub seen : (new : List Record)
      → KeepsBox town node (standing town records) (standing town new)
      → IsSeen town (standing town new) node round sight.point sight.cuts.items

-- ---- how a round ends

-- what holds of an open node behind what was told of it
abbrev pub IsTold : KeepState → ℕ → Option Point → Type 0
IsTold keep node None = IsHard keep.town (now keep) node
IsTold keep node (Some point) = CostsBound keep node point × HasTourNear keep point

-- these cuts, if there are any, cut off a point of an open node that costs its bound
pub record CutsOff (keep : KeepState) (items : List Record) : Type 0 where
  pub node : ℕ
  pub point : Point
  pub opened : IsOpenAt keep node
  pub within : IsPointIn keep.town (now keep) (at_node keep node) point
  pub costs : CostsBound keep node point
  pub useful : All (IsUseful keep.town (now keep) point) items

abbrev pub AreCuts : KeepState → List Record → Type 0
AreCuts keep items = (items ≡ []) ⊎ CutsOff keep items

-- some cut joined the list; or none did, where there is none or the list is full of cuts
abbrev pub EndsOffering : KeepState → KeepState → List Record → Bool → Type 0
EndsOffering old new items true = AddsOnlyCuts 1 old new
EndsOffering old new items false = (new.records ≡ old.records)
    × ((items ≡ []) ⊎ (cuts_of old.records ≡ most_cuts))

-- cuts were added to the open node, or a last round leaves it so
abbrev pub EndsCutting : KeepState → KeepState → ℕ → ℕ → RoundEnd → Type 0
EndsCutting old new node round Cut = AddsOnlyCuts 1 old new × IsOpenAt new node
EndsCutting old new node round (Last left) = (new.records ≡ old.records)
    × (IsOpenAt new node → IsLeft new node left)
    × (IsOpenAt new node → round ≤ most_round_cuts → MeetsLeft new node left)

abbrev pub EndsRound : KeepState → KeepState → ℕ → ℕ → RoundEnd → Type 0
EndsRound old new node round Cut = AddsCuts 1 0 0 old new × IsOpenAt new node
EndsRound old new node round (Last left) =
    (IsOpenAt new node → IsLeft new node left)
    × (IsOpenAt new node → round ≤ most_round_cuts → MeetsLeft new node left)
