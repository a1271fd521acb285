-- What is kept of the records so far, and room for judging one more.
use Rattle.std.specs.Prelude.{◌≡◌, ◌*◌, Bool, true, false, length}
use Rattle.std.specs.List.{list_any, count_by}
use Rattle.wrp_town.specs.declared.town.Town.{Town}
use Rattle.wrp_rules.specs.declared.record.Record.{Record}
use Rattle.wrp_rules.specs.declared.record.Record.TheVariants.{Blind}
use Rattle.wrp_rules.specs.Rows.{base_rows}
use Rattle.wrp_rules.specs.Nodes.{Standing}
use Rattle.wrp_rules.specs.Rules.{is_labels}
use Rattle.wrp_nodes.specs.Tables.{IsAtRest}
use Rattle.wrp_points.specs.Tables.{AreClear}
use Rattle.wrp_rows.specs.Pools.{HasRowsOf}
use Rattle.wrp_tree.specs.declared.kept.Kept.{Kept}
use Rattle.wrp_tree.specs.declared.desk.Desk.{Desk}
use Rattle.wrp_tree.specs.Boxes.{FitBounds}
use Rattle.wrp_tree.specs.Indexes.{IsIndexed}

-- leave to split a node with no point
abbrev pub is_blind : Record → Bool
is_blind (Blind node) = true
is_blind item = false

-- its numbers are those of the records so far
pub record IsKept (town : Town) (s : Standing) (kept : Kept) : Type 0 where
  pub records : s.records ≡ kept.records.items
  pub rows_town : kept.rows.town ≡ town
  pub rows : HasRowsOf s kept.rows
  pub index : IsIndexed town s.nodes s.upper kept.index
  pub base : kept.base ≡ length (base_rows town)
  pub blind : count_by is_blind s.records ≡ kept.blind
  pub labelled : list_any is_labels s.records ≡ kept.labelled

-- they are those of some records
abbrev pub IsSoundOf : Town → Kept → Type 0
IsSoundOf town kept = (s : Standing) × IsKept town s kept

-- room for the arcs and junctions of the town; what is at rest is at rest
pub record IsDeskOf (town : Town) (desk : Desk) : Type 0 where
  pub boxes : IsAtRest town desk.boxes
  pub tables : AreClear town desk.tables
  pub bounds : FitBounds town desk.bounds
  pub sums : length desk.sums.items ≡ 2 * length town.streets
  pub marks : length desk.marks.items ≡ length town.junctions
