-- Boxes of nodes, and the nodes that were split.
use Rattle.std.specs.Prelude.{◌≡◌, ℕ, ◌≤◌, ◌<◌, Bool, true, false, ◌==◌, List, length}
use Rattle.std.specs.List.{list_any}
use Rattle.wrp_town.specs.declared.town.Town.{Town}
use Rattle.wrp_town.specs.Arcs.{is_legal}
use Rattle.wrp_rules.specs.declared.record.Record.{Record}
use Rattle.wrp_rules.specs.declared.record.Record.TheVariants.{Split}
use Rattle.wrp_rules.specs.Nodes.{Node, Standing, root, node_at}

-- the numbers lie in the box of the node
pub record IsInside (town : Town) (node : Node) (x : ℕ → ℕ) : Type 0 where
  pub at_least : (arc : ℕ) → is_legal town arc ≡ true → node.lo arc ≤ x arc
  pub at_most : (arc : ℕ) → is_legal town arc ≡ true → x arc ≤ node.hi arc

-- the record splits the node
abbrev pub splits : ℕ → Record → Bool
splits i (Split node arc k) = node == i
splits i _ = false

-- a record splits the node
abbrev pub is_split : List Record → ℕ → Bool
is_split records i = list_any (splits i) records

-- the boxes of the unsplit nodes are not empty, are disjoint, and cover the box of the root; a node
-- that was split is there and closed
pub record IsPartition (town : Town) (s : Standing) : Type 0 where
  pub splits_there : (i : ℕ) → is_split s.records i ≡ true → i < length s.nodes
  pub splits_closed : (i : ℕ) → is_split s.records i ≡ true → (node_at town s i).is_closed ≡ true
  pub filled : (i : ℕ) → i < length s.nodes → (arc : ℕ) → is_legal town arc ≡ true
      → (node_at town s i).lo arc ≤ (node_at town s i).hi arc
  pub cover : (x : ℕ → ℕ) → IsInside town (root town) x
      → (i : ℕ) × (i < length s.nodes) × (is_split s.records i ≡ false)
      × (IsInside town (node_at town s i) x)
  pub apart : (x : ℕ → ℕ) (i j : ℕ) → i < length s.nodes → j < length s.nodes
      → is_split s.records i ≡ false → is_split s.records j ≡ false
      → IsInside town (node_at town s i) x → IsInside town (node_at town s j) x → i ≡ j
