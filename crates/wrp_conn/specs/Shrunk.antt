-- Parts shrunk to one junction each, and the net of a point between them.
use Rattle.std.specs.Prelude.{◌≡◌, ◌≢◌, ℕ, ◌*◌, ◌^◌, ◌<◌, ◌≤◌, Bool, true, ℤ, pos, ◌≤ℤ◌, List, length, slice_index, slice_index_or, Option, None, Some, IsSome}
use Rattle.std.specs.Option.{unwrap_or, option_to_list}
use Rattle.std.specs.List.{flat_map}
use Rattle.wrp_town.specs.declared.town.Town.{Town}
use Rattle.wrp_town.specs.Streets.{forward_arc}
use Rattle.wrp_town.specs.Arcs.{tail_of, head_of, is_required}
use Rattle.wrp_parts.specs.RequiredParts.{part_at}
use Rattle.wrp_webs.specs.Webs.{sum_below}
use Rattle.wrp_webs.specs.Nets.{leaving}
use Rattle.wrp_webs.specs.TownWebs.{part_node, IsUncrossed}
use Rattle.wrp_flow.specs.declared.net.Net.{Net}
use Rattle.wrp_flow.specs.Flows.{IsNet, LeavesAll, tail_in, head_in, capacity_in, leaving_in}
use Rattle.wrp_conn.specs.declared.shrunk.Shrunk.{Shrunk}
use Rattle.wrp_conn.specs.Founds.{IsRequiredStreet}

-- the street of a part
abbrev pub street_at : List (Option ℕ) → ℕ → Option ℕ
street_at streets part = slice_index_or streets part None

-- a required street of each part: of the parts of the first streets
pub record ArePartStreets
    (town : Town) (count : ℕ) (of : List (Option ℕ)) (below : ℕ) (streets : List (Option ℕ))
    : Type 0 where
  pub long : length streets ≡ count
  pub inside : (part street : ℕ) → street_at streets part ≡ Some street
      → street < length town.streets
  pub required : (part street : ℕ) → street_at streets part ≡ Some street
      → is_required town street ≡ true
  pub parts : (part street : ℕ) → street_at streets part ≡ Some street
      → part_at of (tail_of town (forward_arc street)) ≡ Some part
  pub some : (street part : ℕ) → street < below → is_required town street ≡ true
      → part_at of (tail_of town (forward_arc street)) ≡ Some part
      → IsSome (street_at streets part)

-- the junction that stands for a part: where its street begins
abbrev pub named_by : Town → List (Option ℕ) → ℕ → ℕ
named_by town streets part = tail_of town (forward_arc (unwrap_or (street_at streets part) 0))

-- the junction that stands for each junction, as a list
pub record AreNodes
    (town : Town) (of streets : List (Option ℕ)) (nodes : List ℕ)
    : Type 0 where
  pub long : length nodes ≡ length town.junctions
  pub is : (j : ℕ) → j < length town.junctions
      → slice_index nodes j ≡ part_node of (named_by town streets) j

-- as much can leave each set of the net as leaves it at the point, by the first arcs
abbrev pub LeavesAsAt : Town → List ℕ → (ℕ → ℕ) → ℕ → Net → Type 0
LeavesAsAt town nodes x below net = (set : ℕ → Bool)
    → leaving_in net set ≡ leaving below (λ a. slice_index nodes (tail_of town a))
    (λ a. slice_index nodes (head_of town a)) x set

-- a junction for each junction
pub record AreInside (town : Town) (nodes : List ℕ) : Type 0 where
  pub long : length nodes ≡ length town.junctions
  pub below : (j : ℕ) → j < length town.junctions
      → slice_index nodes j < length town.junctions

-- the net of some arcs between the junctions of a town
abbrev pub net_with : Town → List (ℕ × ℕ × ℤ) → Net
net_with town arcs = record { nodes = length town.junctions; arcs = arcs }

-- the net of the first arcs
pub record IsNetBelow
    (town : Town) (nodes : List ℕ) (x : ℕ → ℕ) (below : ℕ) (arcs : List (ℕ × ℕ × ℤ))
    : Type 0 where
  pub tails : (a : ℕ) → a < length arcs → tail_in (net_with town arcs) a < length town.junctions
  pub heads : (a : ℕ) → a < length arcs → head_in (net_with town arcs) a < length town.junctions
  pub low : (a : ℕ) → a < length arcs → pos 0 ≤ℤ (slice_index_or arcs a (0, 0, pos 0)).2
  pub small : sum_below (capacity_in (net_with town arcs)) (length arcs) ≤ below * 2 ^ 72
  pub leaves : LeavesAsAt town nodes x below (net_with town arcs)

-- the streets of the parts that have one
abbrev pub streets_in : List (Option ℕ) → List ℕ
streets_in streets = flat_map option_to_list streets

-- parts shrunk to one junction each: sets of nodes are crossed by no required street, and what
-- leaves one in the net leaves it at the point
pub record IsShrunk (town : Town) (x : ℕ → ℕ) (shrunk : Shrunk) : Type 0 where
  pub nodes : AreInside town shrunk.nodes.items
  pub uncrossed : (set : ℕ → Bool)
      → IsUncrossed town (λ j. set (slice_index shrunk.nodes.items j))
  pub net : IsNet shrunk.net
  pub count : shrunk.net.nodes ≡ length town.junctions
  pub leaves : LeavesAsAt town shrunk.nodes.items x (2 * length town.streets) shrunk.net

-- a required street that begins at a node
pub record IsAtNode (town : Town) (nodes : List ℕ) (street : ℕ) : Type 0 where
  pub required : IsRequiredStreet town street
  pub still : slice_index nodes (tail_of town (forward_arc street))
      ≡ tail_of town (forward_arc street)

-- at least that much can leave each set of nodes between the two streets, where they begin at two
-- nodes
abbrev pub IsFar : Town → Net → ℤ → ℕ → ℕ → Type 0
IsFar town net least r1 r2 =
    tail_of town (forward_arc r1) ≢ tail_of town (forward_arc r2)
    → LeavesAll net (tail_of town (forward_arc r1)) (tail_of town (forward_arc r2)) least
