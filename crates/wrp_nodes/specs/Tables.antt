-- The table of the ranges of uses, at rest and in the box of a node.
use Rattle.std.specs.Prelude.{◌≡◌, ℕ, ◌*◌, ◌<◌, ◌⊎◌, true, List, length, slice_index_or}
use Rattle.wrp_town.specs.declared.town.Town.{Town}
use Rattle.wrp_town.specs.Arcs.{is_legal, demands}
use Rattle.wrp_rules.specs.Nodes.{Node}
use Rattle.wrp_nodes.specs.declared.kept.KeptNode.{KeptNode}
use Rattle.wrp_nodes.specs.declared.kept.UseRange.{UseRange}
use Rattle.wrp_nodes.specs.declared.boxes.Boxes.{Boxes}
use Rattle.wrp_nodes.specs.Kept.{kept_at, node_in, HasNodes}

-- the range of an arc at rest: from 0 to the greatest number
abbrev pub whole_range : Boxes → UseRange
whole_range boxes = record { lo = 0; hi = boxes.most }

-- the range of an arc
abbrev pub range_at : Boxes → ℕ → UseRange
range_at boxes arc = slice_index_or boxes.ranges arc (whole_range boxes)

-- it has a range for each arc of the town, and the greatest number is that of the demands
pub record Fits (town : Town) (boxes : Boxes) : Type 0 where
  pub arcs : length boxes.ranges ≡ 2 * length town.streets
  pub most : boxes.most ≡ length (demands town)

-- every range is whole
pub record IsAtRest (town : Town) (boxes : Boxes) : Type 0 where
  pub fits : Fits town boxes
  pub ranges : (arc : ℕ) → range_at boxes arc ≡ whole_range boxes

-- the ranges of the legal arcs are those of the node
pub record HasBox (town : Town) (boxes : Boxes) (node : Node) : Type 0 where
  pub lo : (arc : ℕ) → is_legal town arc ≡ true → (range_at boxes arc).lo ≡ node.lo arc
  pub hi : (arc : ℕ) → is_legal town arc ≡ true → (range_at boxes arc).hi ≡ node.hi arc

-- an arc is cut on the way from a node to the root
pub data IsCutAbove (kept : List KeptNode) (arc : ℕ) : ℕ → Type 0 where
  here : (i : ℕ) → 0 < i → (kept_at kept i).arc ≡ arc → IsCutAbove kept arc i
  above : (i : ℕ) → 0 < i → IsCutAbove kept arc (kept_at kept i).parent → IsCutAbove kept arc i

-- every range that isn't cut on the way is whole
abbrev pub AreCutAbove : List KeptNode → ℕ → Boxes → Type 0
AreCutAbove kept node boxes =
    (arc : ℕ) → (range_at boxes arc ≡ whole_range boxes) ⊎ IsCutAbove kept arc node

-- it is in the box of a node
pub record HasEntered (town : Town) (kept : List KeptNode) (node : ℕ) (boxes : Boxes)
    : Type 0 where
  pub fits : Fits town boxes
  pub others : AreCutAbove kept node boxes
  pub box : (nodes : List Node) → HasNodes town kept nodes
      → HasBox town boxes (node_in town nodes node)
