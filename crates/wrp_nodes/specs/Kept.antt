-- How the nodes are kept, and what the kept nodes stand for.
use Rattle.std.specs.Prelude.{◌≡◌, ℕ, ◌+◌, ◌*◌, ◌<◌, ◌≤◌, min, max, Bool, true, false, not, ◌&&◌, pos, List, [], ◌∷◌, ◌++◌, length, take, slice_index_or, Option}
use Rattle.std.specs.List.{AllZip}
use Rattle.wrp_town.specs.declared.town.Town.{Town}
use Rattle.wrp_town.specs.Arcs.{is_legal, demands}
use Rattle.wrp_rules.specs.Nodes.{Node, root, closed, at_most, at_least, changed, is_below}
use Rattle.wrp_rules.specs.Rules.{parts_range}
use Rattle.wrp_nodes.specs.declared.kept.KeptNode.{KeptNode}
use Rattle.wrp_nodes.specs.declared.kept.UseRange.{UseRange}
use Rattle.wrp_nodes.specs.declared.kept.Cut.{Cut}
use Rattle.wrp_nodes.specs.declared.kept.Cut.TheVariants.{AtLeast, AtMost}

-- the node of this number, or the root
abbrev pub node_in : Town → List Node → ℕ → Node
node_in town nodes i = slice_index_or nodes i (root town)

-- the root as it is kept, which is in nobody's box
abbrev pub kept_root : KeptNode
kept_root = record { bound = pos 0; is_closed = false; parent = 0; arc = 0; cut = AtLeast 0 }

abbrev pub kept_at : List KeptNode → ℕ → KeptNode
kept_at kept i = slice_index_or kept i kept_root

-- ---- boxes, cut by cut

-- what a cut leaves of a range of uses
abbrev pub cut_range : Cut → UseRange → UseRange
cut_range (AtLeast k) range = record { lo = max range.lo k; hi = range.hi }
cut_range (AtMost k) range = record { lo = range.lo; hi = min range.hi k }

-- the node with the range of one arc cut
abbrev pub cut_by : Cut → ℕ → Node → Node
cut_by (AtLeast k) arc node = at_least arc k node
cut_by (AtMost k) arc node = at_most arc k node

-- two nodes allow the same uses of each legal arc
pub record HaveSameBox (town : Town) (one other : Node) : Type 0 where
  pub lo : (arc : ℕ) → is_legal town arc ≡ true → one.lo arc ≡ other.lo arc
  pub hi : (arc : ℕ) → is_legal town arc ≡ true → one.hi arc ≡ other.hi arc

-- a node allows no uses of a legal arc that its parent doesn't
pub record IsWithin (town : Town) (node parent : Node) : Type 0 where
  pub lo : (arc : ℕ) → is_legal town arc ≡ true → parent.lo arc ≤ node.lo arc
  pub hi : (arc : ℕ) → is_legal town arc ≡ true → node.hi arc ≤ parent.hi arc

-- some number of uses is allowed of each legal arc, and none above the number of demands
pub record IsSound (town : Town) (node : Node) : Type 0 where
  pub some : (arc : ℕ) → is_legal town arc ≡ true → node.lo arc ≤ node.hi arc
  pub most : (arc : ℕ) → is_legal town arc ≡ true → node.hi arc ≤ length (demands town)

-- ---- nodes

-- each node but the root has a parent before it, and an arc among the first of this number
pub record AreLinked (arcs : ℕ) (kept : List KeptNode) : Type 0 where
  pub root : 0 < length kept
  pub parent : (i : ℕ) → 0 < i → i < length kept → (kept_at kept i).parent < i
  pub arc : (i : ℕ) → 0 < i → i < length kept → (kept_at kept i).arc < arcs

-- its own numbers are those of the node
pub record Keeps (kept : KeptNode) (node : Node) : Type 0 where
  pub bound : kept.bound ≡ node.bound
  pub is_closed : kept.is_closed ≡ node.is_closed

-- the box of a node is that of its parent with the range of one legal arc cut
pub record IsCutOut (town : Town) (kept : KeptNode) (parent node : Node) : Type 0 where
  pub arc : is_legal town kept.arc ≡ true
  pub box : HaveSameBox town node (cut_by kept.cut kept.arc parent)
  pub within : IsWithin town node parent

-- the kept nodes stand for these
pub record HasNodes (town : Town) (kept : List KeptNode) (nodes : List Node) : Type 0 where
  pub linked : AreLinked (2 * length town.streets) kept
  pub keeps : AllZip Keeps kept nodes
  pub first : HaveSameBox town (node_in town nodes 0) (root town)
  pub others : (i : ℕ) → 0 < i → i < length kept
      → IsCutOut town (kept_at kept i) (node_in town nodes (kept_at kept i).parent)
      (node_in town nodes i)
  pub sound : (i : ℕ) → i < length kept → IsSound town (node_in town nodes i)

-- a node of this parent, with the range of one arc cut, and all else the parent's
abbrev pub child_of : List KeptNode → ℕ → ℕ → Cut → KeptNode
child_of kept parent arc cut =
    record (kept_at kept parent) { parent = parent; arc = arc; cut = cut }

-- a kept node isn't closed, and its bound is below the cheapest tour
abbrev pub is_open_kept : Option ℕ → KeptNode → Bool
is_open_kept upper kept = not kept.is_closed && is_below kept.bound upper

-- ---- changes

-- the root alone
pub record IsRootAlone (kept : List KeptNode) : Type 0 where
  pub count : length kept ≡ 1
  pub linked : (arcs : ℕ) → AreLinked arcs kept
  pub nodes : (town : Town) → HasNodes town kept (root town ∷ [])

-- as many nodes as before, and those that they stand for are changed in this way
pub record Becomes (old new : List KeptNode) (change : List Node → List Node) : Type 0 where
  pub count : length new ≡ length old
  pub linked : (arcs : ℕ) → AreLinked arcs old → AreLinked arcs new
  pub nodes : (town : Town) (nodes : List Node) → HasNodes town old nodes
      → HasNodes town new (change nodes)

-- the two nodes that a split makes
abbrev pub children : Town → ℕ → ℕ → ℕ → List Node → List Node
children town node arc k nodes =
    at_most arc k (node_in town nodes node) ∷ at_least arc (k + 1) (node_in town nodes node) ∷ []

-- a node closed, and two more: at most k uses of the arc, and at least k + 1
abbrev pub split_nodes : Town → ℕ → ℕ → ℕ → List Node → List Node
split_nodes town node arc k nodes =
    changed closed node nodes ++ children town node arc k nodes

-- two nodes more behind those of before, and those that they stand for follow so, where the arc is
-- legal and k parts its range
pub record GainsChildren (old new : List KeptNode) (node arc k : ℕ) : Type 0 where
  pub count : length new ≡ length old + 2
  pub front : take (length old) new ≡ old
  pub linked : (arcs : ℕ) → arc < arcs → AreLinked arcs old → AreLinked arcs new
  pub nodes : (town : Town) (nodes : List Node) → HasNodes town old nodes
      → is_legal town arc ≡ true → parts_range (node_in town nodes node) arc k ≡ true
      → HasNodes town new (nodes ++ children town node arc k nodes)

-- two nodes more, and those that they stand for are split so, where the arc is legal and k parts its
-- range
pub record Splits (old new : List KeptNode) (node arc k : ℕ) : Type 0 where
  pub count : length new ≡ length old + 2
  pub linked : (arcs : ℕ) → arc < arcs → AreLinked arcs old → AreLinked arcs new
  pub nodes : (town : Town) (nodes : List Node) → HasNodes town old nodes
      → is_legal town arc ≡ true → parts_range (node_in town nodes node) arc k ≡ true
      → HasNodes town new (split_nodes town node arc k nodes)
