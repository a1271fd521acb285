-- What a relaxation over all rows of a list shows of its point.
use Rattle.std.proofs.Common.{ℕ, List}
use Rattle.wrp_town.specs.declared.town.Town.{Town}
use Rattle.wrp_rules.specs.declared.record.Record.{Record}
use Rattle.wrp_rules.specs.Nodes.{Node, standing}
use Rattle.wrp_progress.proofs.Meeting.{balances, services}
use Rattle.wrp_rows.specs.declared.point.Bounds.{Bounds}
use Rattle.wrp_rows.specs.declared.point.Point.{Point}
use Rattle.wrp_rows.specs.Pools.{RowPool}
use Rattle.wrp_rows.specs.Points.{AreBounds}
use Rattle.wrp_odd.specs.Points.{denominator_of, numbers_of}
use Rattle.wrp_lp.specs.declared.lp.Lp.{Lp}
use Rattle.wrp_lp.specs.declared.lp.Lp.TheVariants as lps
use Rattle.wrp_box.specs.Relaxing.{all_rows, IsRelaxed, IsPointIn, ShowsNode}
use Rattle.wrp_engine.specs.Cuts.{IsServing, IsServed}

-- a point that meets all rows of a list is balanced and serves
pub serving : (town : Town) (records : List Record) (node : Node) (point : Point) → IsPointIn town (standing town records) node point → IsServing town point
serving town records node point is = record {
  is = is.is;
  numbers = is.numbers;
  balanced = λ j below. balances town records (denominator_of point) (numbers_of point) is.of_node.meets j below;
  services = λ demand inside. services town records (denominator_of point) (numbers_of point) is.of_node.meets demand inside;
}

module _ (pool : RowPool) (records : List Record) (node : Node) (bounds : Bounds) (pivots : ℕ) (within : AreBounds pool.town bounds) where
  pub served : (lp : Lp) → IsRelaxed pool bounds pivots lp → ShowsNode pool.town (standing pool.town records) node lp → IsServed pool (all_rows pool) lp
  served (lps.Optimal point mult table taken) relaxed shows = (
    serving pool.town records node point shows,
    record { optimal = record {}; bounds = bounds; limit = pivots; are_bounds = within; end = relaxed.end; shows = relaxed.shows },
  )
  served (lps.Empty mult taken) relaxed shows = record {}
  served (lps.Wide taken) relaxed shows = record {}
  served (lps.Pivots taken) relaxed shows = record {}
