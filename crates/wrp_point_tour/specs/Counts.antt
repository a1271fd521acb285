-- Counts of uses of the arcs: those of a whole point, and those within a piece.
use Rattle.std.specs.Prelude.{◌≡◌, ℕ, ◌<◌, ◌≤◌, Bool, true, false, cond, List, length, slice_index, slice_index_or}
use Rattle.std.specs.List.{Contains}
use Rattle.wrp_town.specs.declared.street.Step.{Step}
use Rattle.wrp_town.specs.declared.town.Town.{Town}
use Rattle.wrp_town.specs.Arcs.{tail_of, is_required, demands}
use Rattle.wrp_town.specs.Walks.{count_of}
use Rattle.wrp_webs.specs.TownWebs.{IsBalanced, MeetsServices}
use Rattle.wrp_euler.specs.Circuits.{is_used}
use Rattle.wrp_rows.specs.declared.point.Point.{Point}
use Rattle.wrp_conn.specs.Conns.{MeetsConns}
use Rattle.wrp_point_tour.specs.PointTours.{IsTimes}

-- each count, of some of the first arcs, is that of a whole point, and none is above the most
abbrev pub AreTimes : Point → ℕ → List ℕ → Type 0
AreTimes point most counts =
    (arc : ℕ) → arc < length counts
    → (slice_index counts arc ≤ most) × IsTimes point arc (slice_index counts arc)

-- no count is above the number of demands
abbrev pub AreFew : Town → List ℕ → Type 0
AreFew town counts = (arc : ℕ) → slice_index counts arc ≤ length (demands town)

-- counts that are balanced, serve each demand and meet the connectivity rows
pub record AreTourCounts (town : Town) (counts : List ℕ) : Type 0 where
  pub balanced : IsBalanced town (slice_index counts)
  pub services : MeetsServices town 1 (slice_index counts)
  pub connected : MeetsConns town 1 (slice_index counts)

-- the steps use no arc more often than its count
abbrev pub UsesAtMost : List ℕ → List Step → Type 0
UsesAtMost counts steps = (arc : ℕ) → count_of steps arc ≤ slice_index counts arc

-- each demand has an arc that is used
abbrev pub AreServed : Town → List ℕ → Type 0
AreServed town counts =
    (demand : List ℕ) → Contains (demands town) demand
    → (arc : ℕ) × Contains demand arc × (is_used counts arc ≡ true)

-- whether a junction is marked
abbrev pub is_marked : List Bool → ℕ → Bool
is_marked marks j = slice_index_or marks j false

-- the counts of the arcs that begin at a marked junction, and 0 for the others
abbrev pub AreKept : Town → List Bool → List ℕ → List ℕ → Type 0
AreKept town marks counts kept =
    (arc : ℕ) → slice_index kept arc
    ≡ cond (is_marked marks (tail_of town arc)) (slice_index counts arc) 0

-- a required street
pub record IsRequiredStreet (town : Town) (street : ℕ) : Type 0 where
  pub there : street < length town.streets
  pub required : is_required town street ≡ true
