-- A search from a base along the arcs that are used: what is marked, and what stands on the stack.
use Rattle.std.specs.Prelude.{◌≡◌, ℕ, ◌+◌, Bool, true, not, ◌⊎◌, List, map, length}
use Rattle.std.specs.List.{Contains, count_by, filter}
use Rattle.wrp_town.specs.declared.town.Town.{Town}
use Rattle.wrp_town.specs.Arcs.{tail_of, head_of, is_legal}
use Rattle.wrp_graph.specs.Pieces.{Joined}
use Rattle.wrp_euler.specs.Circuits.{is_used}
use Rattle.wrp_point_tour.specs.Counts.{is_marked}

-- what arcs that are used lead to from the base is marked, and nothing else
pub record IsReach (town : Town) (counts : List ℕ) (base : ℕ) (marks : List Bool) : Type 0 where
  pub begun : is_marked marks base ≡ true
  pub closed : (arc : ℕ) → is_legal town arc ≡ true → is_used counts arc ≡ true
      → is_marked marks (tail_of town arc) ≡ true → is_marked marks (head_of town arc) ≡ true
  pub reached : (j : ℕ) → is_marked marks j ≡ true → Joined town (is_used counts) base j

-- the same while junctions wait on a stack: what a marked junction leads to is marked, or it waits
pub record IsSearch
    (town : Town) (counts : List ℕ) (base : ℕ) (marks : List Bool) (stack : List ℕ)
    : Type 0 where
  pub long : length marks ≡ length town.junctions
  pub begun : is_marked marks base ≡ true
  pub stacked : (j : ℕ) → Contains stack j → is_marked marks j ≡ true
  pub closed : (arc : ℕ) → is_legal town arc ≡ true → is_used counts arc ≡ true
      → is_marked marks (tail_of town arc) ≡ true
      → Contains stack (tail_of town arc) ⊎ (is_marked marks (head_of town arc) ≡ true)
  pub reached : (j : ℕ) → is_marked marks j ≡ true → Joined town (is_used counts) base j

-- where those of some arcs lead that are used
abbrev pub heads_of_used : Town → List ℕ → List ℕ → List ℕ
heads_of_used town counts arcs = map (head_of town) (filter (is_used counts) arcs)

-- how many junctions are not marked
abbrev pub unmarked : List Bool → ℕ
unmarked marks = count_by not marks

-- a visit of junctions: those that were not marked are, and stand on the stack
pub record IsVisit
    (visited : List ℕ) (old : List Bool) (stack : List ℕ) (new : List Bool) (grown : List ℕ)
    : Type 0 where
  pub long : length new ≡ length old
  pub kept : (j : ℕ) → is_marked old j ≡ true → is_marked new j ≡ true
  pub met : (k : ℕ) → Contains visited k → is_marked new k ≡ true
  pub fresh : (j : ℕ) → is_marked new j ≡ true
      → (is_marked old j ≡ true) ⊎ (Contains visited j × Contains grown j)
  pub older : (j : ℕ) → Contains stack j → Contains grown j
  pub stacked : (j : ℕ) → Contains grown j
      → Contains stack j ⊎ (Contains visited j × (is_marked new j ≡ true))
  pub work : unmarked new + length grown ≡ unmarked old + length stack
