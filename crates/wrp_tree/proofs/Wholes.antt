-- The nodes of an index among all that are kept.
use Rattle.std.proofs.Common.{◌≡◌, ℕ, ◌+◌, ◌<◌, Bool, true, ℤ, List, [], ◌++◌, length, Contains, Option, ap, sym, ◌∙◌, subst, arith, length-append}
use Rattle.std.proofs.lemmas.List.{get_or_append_left, take_all, append-nil}
use Rattle.wrp_town.specs.declared.town.Town.{Town}
use Rattle.wrp_rules.specs.Nodes.{Node, root, is_open}
use Rattle.wrp_nodes.specs.declared.kept.KeptNode.{KeptNode}
use Rattle.wrp_nodes.specs.Kept.{node_in, HasNodes, kept_root, kept_at, is_open_kept}
use Rattle.wrp_nodes.proofs.Keeping.{zip_length, zip_at, same_open}
use Rattle.wrp_tree.specs.declared.entries.Entry.{Entry}
use Rattle.wrp_tree.specs.declared.index.NodeIndex.{NodeIndex}
use Rattle.wrp_tree.specs.Entries.{IsIndexOf}
use Rattle.wrp_tree.specs.Indexes.{IsIndexed}
use Rattle.wrp_tree.proofs.Indexing.{entry_there}

module _ (town : Town) (nodes : List Node) (upper : Option ℕ) (index : NodeIndex) (is : IsIndexed town nodes upper index) where
  -- a node of the index is kept
  pub kept_long : length index.nodes ≡ length nodes + length is.spare
  kept_long = zip_length index.nodes (nodes ++ is.spare) is.whole.keeps ∙ length-append nodes is.spare

  pub below_kept : (node : ℕ) → node < index.count → node < length index.nodes
  below_kept node below = omega (arith, kept_long, is.count)

  pub below_nodes : (node : ℕ) → node < index.count → node < length nodes
  below_nodes node below = omega (arith, is.count)

  -- it is that of all
  pub same_node : (node : ℕ) → node < length nodes → node_in town (nodes ++ is.spare) node ≡ node_in town nodes node
  same_node node below = get_or_append_left nodes is.spare (root town) node below

  pub same_told : (node : ℕ) (told : Bool) → node < length nodes → told ≡ is_open index.upper (node_in town (nodes ++ is.spare) node) → told ≡ is_open upper (node_in town nodes node)
  same_told node told below same = same ∙ ap (is_open index.upper) (same_node node below) ∙ ap (λ (u : Option ℕ). is_open u (node_in town nodes node)) is.cheapest

  pub same_bound : (node : ℕ) (bound : ℤ) → node < length nodes → bound ≡ (node_in town (nodes ++ is.spare) node).bound → bound ≡ (node_in town nodes node).bound
  same_bound node bound below same = same ∙ ap (λ (n : Node). n.bound) (same_node node below)

  -- the entry of an open node
  pub own_there : (node : ℕ) (e : Entry) → node < length nodes → is_open upper (node_in town nodes node) ≡ true → e.node ≡ node → e.bound ≡ (node_in town nodes node).bound → Contains index.entries.items e
  own_there node e below told number bound =
      subst (Contains index.entries.items)
      (ap (λ (n : ℕ). record { bound = (node_in town nodes node).bound; node = n }) (sym number) ∙ ap (λ (z : ℤ). record { bound = z; node = e.node }) (sym bound))
      (entry_there upper nodes index.entries.items node (root town) is.entries below told)

  -- whether a node is open, as it is kept
  pub told_kept : (node : ℕ) → node < index.count → is_open_kept index.upper (kept_at index.nodes node) ≡ is_open upper (node_in town nodes node)
  told_kept node below =
      same_told node (is_open_kept index.upper (kept_at index.nodes node)) (below_nodes node below)
      (same_open index.upper (kept_at index.nodes node) (node_in town (nodes ++ is.spare) node) (zip_at index.nodes (nodes ++ is.spare) node kept_root (root town) is.whole.keeps (below_kept node below)))

  -- the entry of an open node is there
  pub open_there : (node : ℕ) (e : Entry) → node < index.count → is_open_kept index.upper (kept_at index.nodes node) ≡ true → e.node ≡ node → e.bound ≡ (node_in town nodes node).bound → Contains index.entries.items e
  open_there node e below told number bound = own_there node e (below_nodes node below) (sym (told_kept node below) ∙ told) number bound

  -- where no others are kept behind them
  pub all_nodes : length index.nodes ≡ index.count → HasNodes town index.nodes nodes
  all_nodes alone = subst (λ (kept : List KeptNode). HasNodes town kept nodes) (take_all index.count index.nodes (omega (arith, alone))) is.front

-- the nodes that are kept, all of them
pub whole_index : (town : Town) (nodes : List Node) (upper : Option ℕ) (index : NodeIndex) → HasNodes town index.nodes nodes → index.count ≡ length index.nodes → index.upper ≡ upper → IsIndexOf upper nodes index.entries.items → IsIndexed town nodes upper index
whole_index town nodes upper index has count cheapest entries = record {
  count = count ∙ zip_length index.nodes nodes has.keeps;
  front = subst (λ (kept : List KeptNode). HasNodes town kept nodes) (sym (take_all index.count index.nodes (omega (arith, count)))) has;
  spare = [];
  whole = subst (HasNodes town index.nodes) (sym (append-nil nodes)) has;
  cheapest = cheapest;
  entries = entries;
}
