-- What the search for cuts stands on, and what it finds.
use Rattle.std.specs.Prelude.{◌≡◌, ◌≤◌, ℕ, true, List, [], ⊤}
use Rattle.std.specs.List.{All}
use Rattle.wrp_town.specs.declared.town.Town.{Town}
use Rattle.wrp_rules.specs.declared.record.Record.{Record}
use Rattle.wrp_rules.specs.Nodes.{Standing}
use Rattle.wrp_rules.specs.Rules.{is_cut}
use Rattle.wrp_webs.specs.TownWebs.{IsBalanced, MeetsServices}
use Rattle.wrp_rows.specs.declared.point.Point.{Point}
use Rattle.wrp_rows.specs.Points.{IsPoint}
use Rattle.wrp_rows.specs.Pools.{RowPool, HasRowsOf}
use Rattle.wrp_odd.specs.Points.{HasNumbers, denominator_of, numbers_of}
use Rattle.wrp_odd.specs.Found.{IsBrokenOddCut}
use Rattle.wrp_minodd.specs.Answers.{MeetsOdd}
use Rattle.wrp_conn.specs.Conns.{IsConnected}
use Rattle.wrp_lp.specs.declared.lp.Lp.{Lp}
use Rattle.wrp_lp.specs.declared.lp.Lp.TheVariants.{Optimal}
use Rattle.wrp_round.specs.Optima.{IsOptimumOver, point_of, system_of}
use Rattle.wrp_round.specs.Broken.{AreFound}
use Rattle.wrp_round.specs.OddForms.{HasBaseRows, IsBrokenCut, IsOddCut}
use Rattle.wrp_licence.specs.Causes.{most_round_cuts}

-- a point that is balanced at every junction and serves every demand
pub record IsServing (town : Town) (point : Point) : Type 0 where
  pub is : IsPoint town point
  pub numbers : HasNumbers point
  pub balanced : IsBalanced town (numbers_of point)
  pub services : MeetsServices town (denominator_of point) (numbers_of point)

-- an optimum over chosen rows, whose point serves; or none
abbrev pub IsServed : RowPool → List ℕ → Lp → Type 0
IsServed pool chosen (Optimal point mult table taken) =
    IsServing pool.town point × IsOptimumOver pool chosen (Optimal point mult table taken)
IsServed pool chosen lp = ⊤

-- a cut that keeps its rules at what stands, and that the point breaks
pub record IsUseful (town : Town) (s : Standing) (point : Point) (item : Record) : Type 0 where
  pub cut : is_cut item ≡ true
  pub broken : IsBrokenCut town s point item

-- at each list with these rows, all are such
abbrev pub AreUseful : RowPool → Point → List Record → Type 0
AreUseful pool point items = (s : Standing) → HasRowsOf s pool → HasBaseRows pool.town s
    → All (IsUseful pool.town s point) items

-- valid Odd records
abbrev pub AreOddCuts : Town → List Record → Type 0
AreOddCuts town items = All (IsOddCut town) items

-- odd cuts that such a point breaks
pub record AreBrokenOdds (town : Town) (point : Point) (items : List Record) : Type 0 where
  pub serving : IsServing town point
  pub broken : All (IsBrokenOddCut town point) items

-- the point of an optimum breaks none of the roundings that its system names
abbrev pub MeetsNamed : RowPool → List ℕ → Lp → Type 0
MeetsNamed pool chosen lp = (s : Standing) → HasRowsOf s pool
    → AreFound pool.town s (point_of lp) (system_of lp) chosen []

-- the point of an optimum breaks no connectivity row and no odd row, and in the first 200 rounds
-- none of the roundings that its system names
pub record IsUnbroken (pool : RowPool) (chosen : List ℕ) (round : ℕ) (lp : Lp) : Type 0 where
  pub conns : IsConnected pool.town (point_of lp)
  pub odds : MeetsOdd pool.town (point_of lp)
  pub roundings : round ≤ most_round_cuts → MeetsNamed pool chosen lp
