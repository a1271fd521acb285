-- The two sides of each arc, and the sides that begin at each node.
use Rattle.std.specs.Prelude.{◌≡◌, ℕ, ◌+◌, ◌-◌, ◌*◌, ◌/◌, ◌%◌, ◌<◌, ◌≤◌, cond, ◌==◌, List, length, slice_index, slice_index_or, Option, None, Some}
use Rattle.wrp_flow.specs.declared.net.Net.{Net}
use Rattle.wrp_flow.specs.declared.star.Star.{Star}
use Rattle.wrp_flow.specs.Flows.{tail_in, head_in, capacity_in, IsNetFlow}

-- side 2 a of arc a leads from its tail to its head, and side 2 a + 1 back
abbrev pub begin_in : Net → ℕ → ℕ
begin_in net side = cond (side % 2 == 0) (tail_in net (side / 2)) (head_in net (side / 2))

abbrev pub end_in : Net → ℕ → ℕ
end_in net side = cond (side % 2 == 0) (head_in net (side / 2)) (tail_in net (side / 2))

-- how many sides there are
abbrev pub sides : Net → ℕ
sides net = 2 * length net.arcs

-- the other side of the same arc
abbrev pub twin_of : ℕ → ℕ
twin_of side = cond (side % 2 == 0) (side + 1) (side - 1)

-- the last of the sides below a number that begin at a node
pub record IsLast (net : Net) (node below : ℕ) (last : Option ℕ) : Type 0 where
  pub is : (k : ℕ) → last ≡ Some k → (k < below) × (begin_in net k ≡ node)
  pub none_later : (side : ℕ) → side < below → begin_in net side ≡ node
      → (k : ℕ) × (last ≡ Some k) × (side ≤ k)

abbrev pub last_at : List (Option ℕ) → ℕ → Option ℕ
last_at lasts k = slice_index_or lasts k None

-- the last side of each node, and of each side the one before it that begins at the same node
pub record IsStar (net : Net) (star : Star) : Type 0 where
  pub nodes : length star.last.items ≡ net.nodes
  pub sides : length star.before.items ≡ sides net
  pub last : (node : ℕ) → node < net.nodes
      → IsLast net node (2 * length net.arcs) (last_at star.last.items node)
  pub before : (side : ℕ) → side < 2 * length net.arcs
      → IsLast net (begin_in net side) side (last_at star.before.items side)

-- the room of each side: what an arc can still take, and what it carries
pub record IsResidual (net : Net) (s t value : ℕ) (room : List ℕ) : Type 0 where
  pub long : length room ≡ sides net
  pub shared : (a : ℕ) → a < length net.arcs
      → slice_index room (2 * a) + slice_index room (2 * a + 1) ≡ capacity_in net a
  pub flow : IsNetFlow net s t value (λ a. slice_index room (2 * a + 1))
