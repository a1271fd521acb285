-- Which connectivity rows the numbers of a point meet, and records of those that they break.
use Rattle.std.specs.Prelude.{◌≡◌, ◌≢◌, ℕ, ◌≤◌, Bool, true, not, ◌&&◌, List, [], length, AllPairs}
use Rattle.std.specs.List.{All, list_all, range_with_len}
use Rattle.wrp_town.specs.declared.town.Town.{Town}
use Rattle.wrp_town.specs.Streets.{forward_arc}
use Rattle.wrp_town.specs.Arcs.{is_required}
use Rattle.wrp_rules.specs.declared.record.Record.{Record}
use Rattle.wrp_rules.specs.declared.record.Record.TheVariants.{Conn}
use Rattle.wrp_rules.specs.Sets.{is_in, crosses, is_parted}
use Rattle.wrp_rules.specs.Rows.{conn_row}
use Rattle.wrp_rules.specs.Nodes.{Standing}
use Rattle.wrp_laws.specs.Points.{MeetsOver}
use Rattle.wrp_webs.specs.TownWebs.{IsBalanced, out_of_set}
use Rattle.wrp_rows.specs.declared.point.Point.{Point}
use Rattle.wrp_rows.specs.Points.{IsPoint}
use Rattle.wrp_odd.specs.Points.{HasNumbers, denominator_of, numbers_of, Breaks}
use Rattle.wrp_odd.specs.Cuts.{IsValidCut}

-- a point whose numbers are from 0 to 2 ^ 72 and balanced at every junction
pub record IsBalancedPoint (town : Town) (point : Point) : Type 0 where
  pub is : IsPoint town point
  pub numbers : HasNumbers point
  pub balanced : IsBalanced town (numbers_of point)

-- no required street crosses the set
abbrev pub is_uncrossed : Town → List ℕ → Bool
is_uncrossed town set = list_all
    (λ street. not (is_required town street && crosses town set (forward_arc street)))
    (range_with_len 0 (length town.streets))

-- the numbers x over e meet every connectivity row over sets that no required street crosses
abbrev pub MeetsConns : Town → ℕ → (ℕ → ℕ) → Type 0
MeetsConns town e x = (r1 r2 : ℕ) (set : List ℕ) → is_parted town r1 r2 set ≡ true
    → is_uncrossed town set ≡ true → MeetsOver town e x (conn_row town set)

-- the point meets all of these
abbrev pub IsConnected : Town → Point → Type 0
IsConnected town point = MeetsConns town (denominator_of point) (numbers_of point)

-- a valid Conn record over a set that no required street crosses, and that the point breaks
pub record IsBrokenConn (town : Town) (point : Point) (item : Record) : Type 0 where
  pub r1 : ℕ
  pub r2 : ℕ
  pub set : List ℕ
  pub is : item ≡ Conn r1 r2 set
  pub valid : (s : Standing) → IsValidCut town s item
  pub uncrossed : is_uncrossed town set ≡ true
  pub broken : Breaks town point (conn_row town set)

-- the set of a Conn record
abbrev pub set_of : Record → List ℕ
set_of (Conn r1 r2 set) = set
set_of item = []

-- what leaves it at the point
abbrev pub leaving_at : Town → Point → Record → ℕ
leaving_at town point item = out_of_set town (numbers_of point) (is_in (set_of item))

-- such records, each set once, and those first whose sets the least leaves
pub record AreBrokenConns (town : Town) (point : Point) (items : List Record) : Type 0 where
  pub broken : All (IsBrokenConn town point) items
  pub apart : AllPairs (λ a b. set_of a ≢ set_of b) items
  pub ordered : AllPairs (λ a b. leaving_at town point a ≤ leaving_at town point b) items
