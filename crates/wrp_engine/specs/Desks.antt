-- What a search works with beside its list.
use Rattle.std.specs.Prelude.{◌≡◌, ◌<◌, ℕ, ◌*◌, List, length}
use Rattle.wrp_town.specs.declared.town.Town.{Town}
use Rattle.wrp_parts.specs.RequiredParts.{AreParts}
use Rattle.wrp_rules.specs.declared.record.Record.{Record}
use Rattle.wrp_rows.specs.Points.{AreBounds, AreBoundsOf}
use Rattle.wrp_tree.specs.Boxes.{FitBounds}
use Rattle.wrp_progress.specs.Progress.{node_in, node_count}
use Rattle.wrp_engine.specs.declared.desk.Desk.{Desk}

-- the graph and the parts of the town, and room for one number, and for one range, of each arc
pub record IsDesk (town : Town) (desk : Desk) : Type 0 where
  pub graph : desk.graph.now ≡ town
  pub parts : AreParts town desk.parts.now.count desk.parts.now.of
  pub fit : FitBounds town desk.bounds
  pub scratch : length desk.scratch.items ≡ 2 * length town.streets

-- the box of a node of the list lies on the desk
pub record IsDeskOf (town : Town) (records : List Record) (node : ℕ) (desk : Desk) : Type 0 where
  pub is : IsDesk town desk
  pub there : node < node_count town records
  pub bounds : AreBounds town desk.bounds
  pub of_node : AreBoundsOf town (node_in town records node) desk.bounds
