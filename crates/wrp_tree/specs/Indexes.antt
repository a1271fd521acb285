-- The nodes as they are kept, with those that are open by their bounds.
use Rattle.std.specs.Prelude.{◌≡◌, ℕ, ◌+◌, ◌<◌, ◌≤◌, ◌≤ℤ◌, true, false, not, List, ◌++◌, take, length, Option, None, Some}
use Rattle.std.specs.Vec.{vec_len, vec_capacity}
use Rattle.std.specs.List.{count_by}
use Rattle.wrp_town.specs.declared.town.Town.{Town}
use Rattle.wrp_rules.specs.Nodes.{Node, is_open}
use Rattle.wrp_nodes.specs.Kept.{HasNodes, node_in, children, kept_at, is_open_kept}
use Rattle.wrp_tree.specs.declared.entries.Entry.{Entry}
use Rattle.wrp_tree.specs.declared.index.NodeIndex.{NodeIndex}
use Rattle.wrp_tree.specs.Entries.{IsIndexOf}

-- it keeps these nodes, perhaps with others behind them, and the cost of the cheapest tour, and its
-- entries are those of the open nodes
pub record IsIndexed (town : Town) (nodes : List Node) (upper : Option ℕ) (index : NodeIndex)
    : Type 0 where
  pub count : index.count ≡ length nodes
  pub front : HasNodes town (take index.count index.nodes) nodes
  pub spare : List Node
  pub whole : HasNodes town index.nodes (nodes ++ spare)
  pub cheapest : index.upper ≡ upper
  pub entries : IsIndexOf upper nodes index.entries.items

-- it keeps some nodes
abbrev pub IsSound : NodeIndex → Type 0
IsSound index =
    (town : Town) × (nodes : List Node) × (upper : Option ℕ) × IsIndexed town nodes upper index

-- this one of them is open
pub record HasOpen (node : ℕ) (index : NodeIndex) : Type 0 where
  pub sound : IsSound index
  pub there : node < index.count
  pub told : is_open_kept index.upper (kept_at index.nodes node) ≡ true

-- behind its nodes stand the two that a split makes, and there is room for one more entry
pub record HasChildren
    (town : Town) (nodes : List Node) (node arc k : ℕ) (index : NodeIndex)
    : Type 0 where
  pub both : HasNodes town index.nodes (nodes ++ children town node arc k nodes)
  pub two : length index.nodes ≡ index.count + 2
  pub room : vec_len index.entries < vec_capacity index.entries

-- the node is open, and no open node has a lower bound, or the same bound and a lower number
pub record IsFirstOpen (town : Town) (nodes : List Node) (upper : Option ℕ) (node : ℕ) : Type 0 where
  pub there : node < length nodes
  pub told : is_open upper (node_in town nodes node) ≡ true
  pub least : (other : ℕ) → other < length nodes → is_open upper (node_in town nodes other) ≡ true
      → (node_in town nodes node).bound ≤ℤ (node_in town nodes other).bound
  pub lowest : (other : ℕ) → other < length nodes → is_open upper (node_in town nodes other) ≡ true
      → (node_in town nodes other).bound ≡ (node_in town nodes node).bound → node ≤ other

-- the first open node with its bound, or none where none is open
abbrev pub IsFirst : Town → List Node → Option ℕ → Option Entry → Type 0
IsFirst town nodes upper (Some entry) =
    IsFirstOpen town nodes upper entry.node × (entry.bound ≡ (node_in town nodes entry.node).bound)
IsFirst town nodes upper None =
    (node : ℕ) → node < length nodes → is_open upper (node_in town nodes node) ≡ false

-- the number of nodes that aren't open
abbrev pub done_of : Option ℕ → List Node → ℕ
done_of upper nodes = count_by (λ node. not (is_open upper node)) nodes
