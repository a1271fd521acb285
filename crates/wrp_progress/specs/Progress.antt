-- How a valid list of records goes on, and the nodes of a list.
use Rattle.std.specs.Prelude.{◌≡◌, ℕ, ◌*◌, ◌<◌, Bool, true, false, ◌||◌, not, ◌==◌, List, ◌++◌, length, None}
use Rattle.std.specs.Option.{option_map_or}
use Rattle.std.specs.List.{list_any, list_all, sum_by, last_or}
use Rattle.wrp_town.specs.declared.town.Town.{Town}
use Rattle.wrp_town.specs.Arcs.{is_legal, legal_arcs, cost_or_zero}
use Rattle.wrp_rules.specs.declared.record.Record.{Record}
use Rattle.wrp_rules.specs.Nodes.{Node, standing, node_at, is_open}
use Rattle.wrp_rules.specs.Sets.{leaves}
use Rattle.wrp_rules.specs.Rules.{is_labels, leads_to_split}
use Rattle.wrp_rules.specs.Lists.{is_valid}

-- more records follow, and the list is valid
pub record GoesOn (town : Town) (old new : List Record) : Type 0 where
  pub more : List Record
  pub is : new ≡ old ++ more
  pub valid : is_valid town new ≡ true

-- the node of this number, as the list leaves it
abbrev pub node_in : Town → List Record → ℕ → Node
node_in town records i = node_at town (standing town records) i

-- the number of nodes of the list
abbrev pub node_count : Town → List Record → ℕ
node_count town records = length (standing town records).nodes

-- a node of the list is open; it is there and isn't
pub record IsOpenIn (town : Town) (records : List Record) (i : ℕ) : Type 0 where
  pub there : i < node_count town records
  pub told : is_open (standing town records).upper (node_in town records i) ≡ true

pub record IsDoneIn (town : Town) (records : List Record) (i : ℕ) : Type 0 where
  pub there : i < node_count town records
  pub told : is_open (standing town records).upper (node_in town records i) ≡ false

-- no record of the list says that there is no tour
abbrev pub HasNoLabels : List Record → Type 0
HasNoLabels records = list_any is_labels records ≡ false

-- the last record gives leave to split the node
abbrev pub LeadsTo : List Record → ℕ → Type 0
LeadsTo records node =
    option_map_or (leads_to_split node) (last_or None records) false ≡ true

-- no arc that leaves the set may be used in the box
abbrev pub is_shut : Town → Node → List ℕ → Bool
is_shut town node set =
    list_all (λ arc. not (leaves town set arc) || (node.hi arc == 0)) (legal_arcs town)

-- the box holds these numbers of uses alone
pub record IsOnePoint (town : Town) (node : Node) (x : ℕ → ℕ) : Type 0 where
  pub lo : (arc : ℕ) → is_legal town arc ≡ true → node.lo arc ≡ x arc
  pub hi : (arc : ℕ) → is_legal town arc ≡ true → node.hi arc ≡ x arc

-- what numbers of uses of the legal arcs cost
abbrev pub use_cost : Town → (ℕ → ℕ) → ℕ
use_cost town x = sum_by (λ arc. cost_or_zero town arc * x arc) (legal_arcs town)
