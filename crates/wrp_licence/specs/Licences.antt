-- Licensed Points: a split behind them cuts off an exact fractional point.
use Rattle.std.specs.Prelude.{◌≡◌, ℕ, List, None}
use Rattle.wrp_town.specs.declared.town.Town.{Town}
use Rattle.wrp_rules.specs.declared.record.Record.{Record}
use Rattle.wrp_rules.specs.declared.record.Record.TheVariants as records
use Rattle.wrp_rules.specs.Rows.{odd_row}
use Rattle.wrp_rules.specs.Nodes.{Standing, standing}
use Rattle.wrp_rules.specs.Rules.{number_at, broken_rule}
use Rattle.wrp_laws.specs.Points.{MeetsOver, price}
use Rattle.wrp_odd.specs.Found.{IsOddSet}
use Rattle.wrp_conn.specs.Conns.{MeetsConns, IsConnected}
use Rattle.wrp_minodd.specs.Answers.{MeetsOdd}
use Rattle.wrp_rows.specs.declared.point.Point.{Point}
use Rattle.wrp_odd.specs.Points.{denominator_of, numbers_of}
use Rattle.wrp_progress.specs.Progress.{node_in}
use Rattle.wrp_box.specs.Relaxing.{IsPointIn}
use Rattle.wrp_box.specs.Branching.{IsPart}

-- the numbers x over e meet the Odd row of every set that an odd number of demands cross
abbrev pub MeetsOdds : Town → ℕ → (ℕ → ℕ) → Type 0
MeetsOdds town e x = (set : List ℕ) → IsOddSet town set → MeetsOver town e x (odd_row town set)

-- a Point with these numbers may stand at the node; one of them isn't whole, and they meet every
-- Conn row over sets that no required street crosses, and every Odd row
pub record IsLicensed (town : Town) (s : Standing) (node den : ℕ) (numbers : List (ℕ × ℕ)) : Type 0
  where
    pub valid : broken_rule town s (records.Point node den numbers) ≡ None
    pub arc : ℕ
    pub part : IsPart town den (number_at numbers) arc
    pub conns : MeetsConns town den (number_at numbers)
    pub odds : MeetsOdds town den (number_at numbers)

-- a point of the search lies in the box of the node, meets all rows of the list, costs the node's
-- bound, and breaks no connectivity row and no odd row
pub record IsExactPoint (town : Town) (records : List Record) (node : ℕ) (point : Point) : Type 0
  where
    pub is : IsPointIn town (standing town records) (node_in town records node) point
    pub costs : price town (denominator_of point) (numbers_of point)
        ≡ (node_in town records node).bound
    pub conns : IsConnected town point
    pub odds : MeetsOdd town point
