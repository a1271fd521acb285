-- A search from a node along sides with room.
use Rattle.std.specs.Prelude.{◌≡◌, ◌≢◌, ℕ, ◌+◌, ◌<◌, ◌≤◌, Bool, true, not, List, length, slice_index, slice_index_or, Option, None, Some, is_some, Contains}
use Rattle.std.specs.List.{count_by}
use Rattle.wrp_flow.specs.declared.net.Net.{Net}
use Rattle.wrp_flow.specs.declared.reach.Mark.{Mark}
use Rattle.wrp_flow.specs.Sides.{begin_in, end_in, sides}

abbrev pub mark_at : List (Option Mark) → ℕ → Option Mark
mark_at marks j = slice_index_or marks j None

abbrev pub is_marked : List (Option Mark) → ℕ → Bool
is_marked marks j = is_some (mark_at marks j)

-- a node was reached by a side with room for as much as its mark says, from a node that was reached
-- before it
pub record IsStep
    (net : Net) (room : List ℕ) (marks : List (Option Mark)) (j : ℕ) (mark : Mark)
    : Type 0 where
  pub inside : mark.side < sides net
  pub ends : end_in net mark.side ≡ j
  pub from : Mark
  pub begins : mark_at marks (begin_in net mark.side) ≡ Some from
  pub earlier : from.place < mark.place
  pub fits : mark.most ≤ slice_index room mark.side
  pub least : mark.most ≤ from.most

-- a set that no side with room leaves
abbrev pub IsClosed : Net → List ℕ → (ℕ → Bool) → Type 0
IsClosed net room set =
    (side : ℕ) → side < sides net → set (begin_in net side) ≡ true → 0 < slice_index room side
    → set (end_in net side) ≡ true

-- the nodes with marks were reached from one node, and lie in each closed set with it
pub record AreReached
    (net : Net) (room : List ℕ) (from : ℕ) (marks : List (Option Mark))
    : Type 0 where
  pub long : length marks ≡ net.nodes
  pub begun : is_marked marks from ≡ true
  pub some : (j : ℕ) (mark : Mark) → mark_at marks j ≡ Some mark → 0 < mark.most
  pub step : (j : ℕ) (mark : Mark) → j ≢ from → mark_at marks j ≡ Some mark
      → IsStep net room marks j mark
  pub within : (set : ℕ → Bool) → set from ≡ true → IsClosed net room set → (j : ℕ)
      → is_marked marks j ≡ true → set j ≡ true

-- and the queue lists them in the order in which they were reached
pub record IsSearch
    (net : Net) (room : List ℕ) (from : ℕ) (marks : List (Option Mark)) (queue : List ℕ)
    : Type 0 where
  pub reached : AreReached net room from marks
  pub queued : (j : ℕ) → is_marked marks j ≡ true → Contains queue j
  pub marked : (j : ℕ) → Contains queue j → is_marked marks j ≡ true
  pub placed : (j : ℕ) (mark : Mark) → mark_at marks j ≡ Some mark → mark.place < length queue

-- the ends of the sides with room that begin at a node have marks
abbrev pub IsDone : Net → List ℕ → List (Option Mark) → ℕ → Type 0
IsDone net room marks node =
    (side : ℕ) → side < sides net → begin_in net side ≡ node → 0 < slice_index room side
    → is_marked marks (end_in net side) ≡ true

-- how many nodes have no mark
abbrev pub unmarked : List (Option Mark) → ℕ
unmarked marks = count_by (λ o. not (is_some o)) marks

-- a search has gone on: marks stand, and the queue grows behind what it holds, by one for each new
-- mark
pub record GoesOn
    (net : Net) (room : List ℕ) (marks : List (Option Mark)) (queue : List ℕ)
    (new : List (Option Mark)) (grown : List ℕ)
    : Type 0 where
  pub long : length new ≡ length marks
  pub kept : (j : ℕ) (mark : Mark) → mark_at marks j ≡ Some mark → mark_at new j ≡ Some mark
  pub longer : length queue ≤ length grown
  pub same : (k : ℕ) → k < length queue → slice_index grown k ≡ slice_index queue k
  pub work : unmarked new + length grown ≡ unmarked marks + length queue
  pub search : (from : ℕ) → IsSearch net room from marks queue → IsSearch net room from new grown
