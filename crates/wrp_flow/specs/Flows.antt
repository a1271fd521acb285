-- Flows in a net whose arcs are a list, and what can leave a set of nodes.
use Rattle.std.specs.Prelude.{◌≡◌, ◌≢◌, ℕ, ◌+◌, ◌^◌, ◌<◌, ◌≤◌, Bool, true, false, ℤ, pos, ◌≤ℤ◌, unsigned_abs, List, length, slice_index_or}
use Rattle.wrp_rules.specs.Ranges.{is_set}
use Rattle.wrp_rules.specs.Rules.{all_below}
use Rattle.wrp_rules.specs.Sets.{is_in}
use Rattle.wrp_webs.specs.Webs.{sum_below}
use Rattle.wrp_webs.specs.Nets.{leaving, sum_at_end}
use Rattle.wrp_flow.specs.declared.net.Net.{Net}

-- the tail, the head and the capacity of an arc
abbrev pub tail_in : Net → ℕ → ℕ
tail_in net a = (slice_index_or net.arcs a (0, 0, pos 0)).0

abbrev pub head_in : Net → ℕ → ℕ
head_in net a = (slice_index_or net.arcs a (0, 0, pos 0)).1

abbrev pub capacity_in : Net → ℕ → ℕ
capacity_in net a = unsigned_abs (slice_index_or net.arcs a (0, 0, pos 0)).2

-- the ends of arcs are nodes, capacities are at least 0, and their sum is below 2 ^ 100
pub record IsNet (net : Net) : Type 0 where
  pub tails : (a : ℕ) → a < length net.arcs → tail_in net a < net.nodes
  pub heads : (a : ℕ) → a < length net.arcs → head_in net a < net.nodes
  pub low : (a : ℕ) → a < length net.arcs
      → pos 0 ≤ℤ (slice_index_or net.arcs a (0, 0, pos 0)).2
  pub small : sum_below (capacity_in net) (length net.arcs) < 2 ^ 100

-- a source and a sink: two different nodes
pub record ArePoles (net : Net) (s t : ℕ) : Type 0 where
  pub source : s < net.nodes
  pub sink : t < net.nodes
  pub differ : s ≢ t

-- the capacities that leave a set of nodes
abbrev pub leaving_in : Net → (ℕ → Bool) → ℕ
leaving_in net set =
    leaving (length net.arcs) (tail_in net) (head_in net) (capacity_in net) set

-- numbers of arcs are a flow of this value from s to t: within the capacities, and what enters a
-- node leaves it, but for s and t
pub record IsFlow
    (nodes n : ℕ) (tail head capacity flow : ℕ → ℕ) (s t value : ℕ)
    : Type 0 where
  pub within : (a : ℕ) → a < n → flow a ≤ capacity a
  pub kept : (j : ℕ) → j < nodes → j ≢ s → j ≢ t
      → sum_at_end n tail flow j ≡ sum_at_end n head flow j
  pub worth : sum_at_end n tail flow s ≡ sum_at_end n head flow s + value

-- the same of a net
abbrev pub IsNetFlow : Net → ℕ → ℕ → ℕ → (ℕ → ℕ) → Type 0
IsNetFlow net s t value flow =
    IsFlow net.nodes (length net.arcs) (tail_in net) (head_in net) (capacity_in net) flow s t value

-- a flow as a list: a number of each arc, at least 0
pub record IsFlowList (net : Net) (s t : ℕ) (value : ℤ) (flow : List ℤ) : Type 0 where
  pub each : length flow ≡ length net.arcs
  pub low : (a : ℕ) → a < length net.arcs → pos 0 ≤ℤ slice_index_or flow a (pos 0)
  pub value_low : pos 0 ≤ℤ value
  pub is : IsNetFlow net s t (unsigned_abs value) (λ a. unsigned_abs (slice_index_or flow a (pos 0)))

-- nodes, ascending, with the one node and without the other
pub record IsSideOf (net : Net) (s t : ℕ) (set : List ℕ) : Type 0 where
  pub is_set : is_set set ≡ true
  pub below : all_below net.nodes set ≡ true
  pub holds : is_in set s ≡ true
  pub leaves_out : is_in set t ≡ false

-- at least that much can leave each set with s and without t
abbrev pub LeavesAll : Net → ℕ → ℕ → ℤ → Type 0
LeavesAll net s t least =
    (set : ℕ → Bool) → set s ≡ true → set t ≡ false → least ≤ℤ pos (leaving_in net set)
