-- Counts of the traversals of arcs, and the closed walks with these counts.
use Rattle.std.specs.Prelude.{◌≡◌, ℕ, ◌*◌, ◌<◌, Bool, true, false, nat_lt, List, length, slice_index}
use Rattle.wrp_town.specs.declared.street.Step.{Step}
use Rattle.wrp_town.specs.declared.town.Town.{Town}
use Rattle.wrp_town.specs.Arcs.{tail_of, is_legal}
use Rattle.wrp_town.specs.Walks.{is_closed_walk, count_of}
use Rattle.wrp_graph.specs.Balances.{leaving, entering, AreBalanced}
use Rattle.wrp_graph.specs.Pieces.{Joined}

-- a count for each arc, none on an illegal one
pub record AreCounts (town : Town) (counts : List ℕ) : Type 0 where
  pub each : length counts ≡ 2 * length town.streets
  pub legal : (arc : ℕ) → is_legal town arc ≡ false → slice_index counts arc ≡ 0

-- the arc is traversed
abbrev pub is_used : List ℕ → ℕ → Bool
is_used counts arc = nat_lt 0 (slice_index counts arc)

-- two arcs are in one piece where arcs that are traversed join their tails
abbrev pub AreInOnePiece : Town → List ℕ → ℕ → ℕ → Type 0
AreInOnePiece town counts first second =
    Joined town (is_used counts) (tail_of town first) (tail_of town second)

-- a closed walk that uses each arc exactly its count of times
pub record IsCircuit (town : Town) (counts : List ℕ) (steps : List Step) : Type 0 where
  pub closed : is_closed_walk town steps ≡ true
  pub counted : (arc : ℕ) → count_of steps arc ≡ slice_index counts arc

-- some closed walk does
abbrev pub HasCircuit : Town → List ℕ → Type 0
HasCircuit town counts = (steps : List Step) × IsCircuit town counts steps

-- the arcs that are traversed are one piece
abbrev pub AreOnePiece : Town → List ℕ → Type 0
AreOnePiece town counts =
    (first second : ℕ) → is_used counts first ≡ true → is_used counts second ≡ true
    → AreInOnePiece town counts first second

-- the least arc that is traversed
pub record IsLeastUsed (counts : List ℕ) (arc : ℕ) : Type 0 where
  pub there : arc < length counts
  pub used : is_used counts arc ≡ true
  pub least : (k : ℕ) → k < arc → is_used counts k ≡ false

-- no arc is traversed
abbrev pub AreNone : List ℕ → Type 0
AreNone counts = (arc : ℕ) → slice_index counts arc ≡ 0

-- the least junction that as many traversals do not leave as enter
pub record IsUnbalanced (town : Town) (counts : List ℕ) (junction : ℕ) : Type 0 where
  pub there : junction < length town.junctions
  pub differs : (leaving town counts junction ≡ entering town counts junction) → ⊥
  pub least : (j : ℕ) → j < junction → leaving town counts j ≡ entering town counts j

-- every junction is balanced, and the second arc is the least one outside the piece of the first,
-- which is the least of all that are traversed
pub record AreApart (town : Town) (counts : List ℕ) (first other : ℕ) : Type 0 where
  pub balanced : AreBalanced town counts
  pub first_used : is_used counts first ≡ true
  pub first_least : (arc : ℕ) → arc < first → is_used counts arc ≡ false
  pub other_used : is_used counts other ≡ true
  pub other_apart : AreInOnePiece town counts first other → ⊥
  pub other_least : (arc : ℕ) → arc < other → is_used counts arc ≡ true
      → AreInOnePiece town counts first arc
