-- The search for an odd set that weighs less than a bound: webs that still await it.
use Rattle.std.specs.Prelude.{◌≡◌, ℕ, ◌-◌, ◌*◌, ◌<◌, Bool, List, length, map, slice_index, Contains}
use Rattle.std.specs.List.{sum_by}
use Rattle.wrp_webs.specs.Webs.{Web, cut, IsOdd, IsMerge, Keeps, odd_nodes, shrunk}

-- an odd set that keeps classes and weighs less than the bound
pub record HasBelow (web : Web) (bound : ℕ) (at : ℕ → ℕ) : Type 0 where
  pub set : ℕ → Bool
  pub keeps : Keeps web at set
  pub odd : IsOdd web set
  pub lighter : cut web set < bound

-- each odd set that weighs less than the bound tells of one in a web that awaits the search
abbrev pub Awaits : Web → ℕ → List (ℕ → ℕ) → Type 0
Awaits web bound pending = (set : ℕ → Bool) → IsOdd web set → cut web set < bound
    → (at : ℕ → ℕ) × (Contains pending at) × (HasBelow web bound at)

-- how much the search has still to do at most
abbrev pub work : Web → List (ℕ → ℕ) → ℕ
work web pending = sum_by (λ at. 2 * odd_nodes web at - 1) pending

-- the junction that stands for junction j, of a list
abbrev pub reading : List ℕ → ℕ → ℕ
reading of j = slice_index of j

-- a smaller web that awaits its search has an odd node
pub record IsPending (web : Web) (of : List ℕ) : Type 0 where
  pub count : length of ≡ web.junctions
  pub merge : IsMerge web (reading of)
  pub some : 0 < odd_nodes web (reading of)

-- the search between two steps
pub record IsSearch (web : Web) (bound : ℕ) (pending : List (List ℕ)) : Type 0 where
  pub awaits : Awaits web bound (map reading pending)
  pub each : (item : List ℕ) → Contains pending item → IsPending web item

-- the list of the web in which the junctions outside the set are merged into t
pub record IsShrunkTo (web : Web) (old : List ℕ) (set : ℕ → Bool) (t : ℕ) (new : List ℕ)
    : Type 0 where
  pub count : length new ≡ web.junctions
  pub is : (j : ℕ) → j < web.junctions → reading new j ≡ shrunk (reading old) set t j
