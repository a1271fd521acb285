-- What a look at the least cuts of one web of the search shows.
use Rattle.std.specs.Prelude.{◌≡◌, ◌≢◌, ◌⊎◌, ℕ, ◌<◌, ◌≤◌, ◌%◌, ◌==◌, Bool, true, false, cond, IfSome, List, [], ◌∷◌, ◌++◌, AllPairs, length, filter, slice_index, Option, None, Some, Contains}
use Rattle.std.specs.List.{All}
use Rattle.wrp_town.specs.declared.town.Town.{Town}
use Rattle.wrp_town.specs.Arcs.{junctions}
use Rattle.wrp_rules.specs.declared.record.Record.{Record}
use Rattle.wrp_rules.specs.Sets.{is_in}
use Rattle.wrp_rows.specs.declared.point.Point.{Point}
use Rattle.wrp_flow.specs.declared.net.Net.{Net}
use Rattle.wrp_flow.specs.Flows.{IsNet, leaving_in}
use Rattle.wrp_webs.specs.Webs.{Web, cut, degrees, class, Keeps, IsOdd, IsOddNode, IsLeastSplit}
use Rattle.wrp_webs.specs.Searching.{reading, HasBelow}
use Rattle.wrp_webs.specs.TownWebs.{town_web}
use Rattle.wrp_odd.specs.Points.{denominator_of, numbers_of}
use Rattle.wrp_odd.specs.Found.{IsBrokenOddCut}
use Rattle.wrp_minodd.specs.declared.pairs.Best.{Best}
use Rattle.wrp_minodd.specs.declared.pairs.Seen.{Seen}
use Rattle.wrp_minodd.specs.declared.look.Look.{Look}
use Rattle.wrp_minodd.specs.declared.look.Look.TheVariants.{Far, Found, Split}

-- the web of a town at a point
abbrev pub web_of : Town → Point → Web
web_of town point = town_web town (denominator_of point) (numbers_of point)

-- the odd nodes of a web, ascending
abbrev pub odd_nodes_of : Town → Point → List ℕ → List ℕ
odd_nodes_of town point map =
    filter (λ node. degrees (web_of town point) (class (reading map) node) % 2 == 1)
    (junctions town)

-- what leaves a set of nodes in the net is what crosses the set in the web
pub record IsNetOf (web : Web) (at : ℕ → ℕ) (net : Net) : Type 0 where
  pub is : IsNet net
  pub nodes : net.nodes ≡ web.junctions
  pub leaves : (set : ℕ → Bool) → leaving_in net set ≡ cut web (λ j. set (at j))

-- the junctions with label 1
abbrev pub inner : List ℕ → ℕ → Bool
inner labels = class (reading labels) 1

-- a junction has the one label where its node is in the list, else the other
pub record IsSide (map nodes : List ℕ) (inside outside : ℕ) (labels : List ℕ) : Type 0 where
  pub long : length labels ≡ length map
  pub is : (j : ℕ) → j < length map
      → slice_index labels j ≡ cond (is_in nodes (reading map j)) inside outside

-- each set that keeps classes, with s and without one of the nodes, weighs at least that
abbrev pub IsFar : Web → (ℕ → ℕ) → ℕ → List ℕ → ℕ → Type 0
IsFar web at s nodes least =
    (v : ℕ) → Contains nodes v → (set : ℕ → Bool) → Keeps web at set → set s ≡ true
    → set v ≡ false → least ≤ cut web set

-- the lightest set so far: a split between s and its own t, lighter than the bound; where it is
-- odd, a record was found
pub record IsBest (web : Web) (bound : ℕ) (at : ℕ → ℕ) (s found : ℕ) (best : Best) : Type 0 where
  pub long : length best.inside.items ≡ web.junctions
  pub two : All (λ label. label < 2) best.inside.items
  pub keeps : Keeps web at (inner best.inside.items)
  pub holds : inner best.inside.items s ≡ true
  pub leaves_out : inner best.inside.items best.t ≡ false
  pub node : IsOddNode web at best.t
  pub value : cut web (inner best.inside.items) ≡ best.value
  pub light : best.value < bound
  pub even : IsOdd web (inner best.inside.items) → 0 < found

-- the weight of the lightest set so far, or the bound
abbrev pub least_of : ℕ → Option Best → ℕ
least_of bound None = bound
least_of bound (Some best) = best.value

-- the record is there: it stood there, or follows the others
abbrev pub IsAddedOnce : Record → List Record → List Record → Type 0
IsAddedOnce item old new =
    (Contains old item × (new ≡ old)) ⊎ ((Contains old item → ⊥) × (new ≡ old ++ item ∷ []))

-- valid Odd records that the point breaks, each once
pub record AreBrokenOnce (town : Town) (point : Point) (records : List Record) : Type 0 where
  pub broken : All (IsBrokenOddCut town point) records
  pub apart : AllPairs (λ a b. a ≢ b) records

-- a set takes the place of the lightest where it is lighter
pub record IsKept (bound value : ℕ) (inside : List ℕ) (t : ℕ) (old new : Seen) : Type 0 where
  pub records : new.records.items ≡ old.records.items
  pub lighter : value < least_of bound old.best
      → (best : Best) × (new.best ≡ Some best) × (best.value ≡ value) × (best.inside.items ≡ inside)
      × (best.t ≡ t)
  pub heavier : least_of bound old.best ≤ value → new.best ≡ old.best

-- what the least cuts between s and some nodes have shown
pub record HasSeen
    (town : Town) (point : Point) (map : List ℕ) (s : ℕ) (nodes : List ℕ) (seen : Seen)
    : Type 0 where
  pub broken : AreBrokenOnce town point seen.records.items
  pub far : IsFar (web_of town point) (reading map) s nodes
      (least_of (denominator_of point) seen.best)
  pub best : IfSome seen.best (IsBest (web_of town point) (denominator_of point) (reading map) s
      (length seen.records.items))

-- an odd node that isn't s
pub record IsOtherNode (web : Web) (at : ℕ → ℕ) (s node : ℕ) : Type 0 where
  pub is_odd : IsOddNode web at node
  pub other : s ≢ node

-- what the least cuts between s and all other odd nodes have shown
pub record HasSeenAll (town : Town) (point : Point) (map : List ℕ) (s : ℕ) (seen : Seen)
    : Type 0 where
  pub nodes : List ℕ
  pub has : HasSeen town point map s nodes seen
  pub all : (v : ℕ) → IsOddNode (web_of town point) (reading map) v → v ≢ s → Contains nodes v

-- what a look at a web answers: that it has no light odd set, or broken odd cuts, or a least split
-- that is even
abbrev pub Shows : Town → Point → List ℕ → Look → Type 0
Shows town point map Far =
    HasBelow (web_of town point) (denominator_of point) (reading map) → ⊥
Shows town point map (Found records) =
    AreBrokenOnce town point records.items × (0 < length records.items)
Shows town point map (Split inside s t) =
    IsLeastSplit (web_of town point) (reading map) (inner inside.items) s t
    × (degrees (web_of town point) (inner inside.items) % 2 ≡ 0)
    × (length inside.items ≡ length map) × (All (λ label. label < 2) inside.items)
