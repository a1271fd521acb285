-- What the streets that cross a set of junctions have: their numbers, and their demands.
use Rattle.std.specs.Prelude.{◌≡◌, ℕ, ◌+◌, ◌*◌, ◌<◌, ◌≤◌, Bool, ◌&&◌, not, cond, ◌==◌, ◌%◌, ◌^◌, nat_lt, List, length, slice_index_or}
use Rattle.wrp_town.specs.declared.town.Town.{Town}
use Rattle.wrp_town.specs.Streets.{forward_arc, backward_arc}
use Rattle.wrp_town.specs.Arcs.{tail_of, head_of}
use Rattle.wrp_webs.specs.Webs.{sum_below, differ, class}
use Rattle.wrp_webs.specs.Searching.{reading}
use Rattle.wrp_webs.specs.TownWebs.{demand_count}
use Rattle.wrp_odd.specs.declared.tally.Tally.{Tally}

-- exactly one end of the street is in the set
abbrev pub crosses_at : Town → (ℕ → Bool) → ℕ → Bool
crosses_at town set s =
    differ (set (tail_of town (forward_arc s))) (set (head_of town (forward_arc s)))

-- the numbers of the arcs of the first n streets that cross the set
abbrev pub crossing_sum : Town → (ℕ → ℕ) → (ℕ → Bool) → ℕ → ℕ
crossing_sum town x set n =
    sum_below (λ s. cond (crosses_at town set s) (x (forward_arc s) + x (backward_arc s)) 0) n

-- and how many demands these streets have
abbrev pub crossing_count : Town → (ℕ → Bool) → ℕ → ℕ
crossing_count town set n =
    sum_below (λ s. cond (crosses_at town set s) (demand_count town s) 0) n

-- the tally of a class
abbrev pub tally_at : List Tally → ℕ → Tally
tally_at tallies c = slice_index_or tallies c (record { sum = 0; demands = 0 })

-- the tally of each class of junctions with one label, over the first n streets
pub record AreTallies
    (town : Town) (x : ℕ → ℕ) (labels : List ℕ) (n : ℕ) (tallies : List Tally) : Type 0 where
  pub long : length tallies ≡ length town.junctions
  pub sums : (c : ℕ) → c < length town.junctions
      → (tally_at tallies c).sum ≡ crossing_sum town x (class (reading labels) c) n
  pub demands : (c : ℕ) → c < length town.junctions
      → (tally_at tallies c).demands ≡ crossing_count town (class (reading labels) c) n

-- an odd number of demands cross, and the numbers that cross don't reach one more over e
abbrev pub is_broken : ℕ → Tally → Bool
is_broken e tally =
    not (tally.demands % 2 == 0) && nat_lt tally.sum (e * (tally.demands + 1))

-- no tally of n streets is above n times what a street has at most
pub record AreLight (n : ℕ) (tallies : List Tally) : Type 0 where
  pub sums : (c : ℕ) → c < length tallies → (tally_at tallies c).sum ≤ n * 2 ^ 73
  pub demands : (c : ℕ) → c < length tallies → (tally_at tallies c).demands ≤ 2 * n

-- a street between two classes is counted for both, and for no other
pub record IsCounted (from to : ℕ) (street : Tally) (old new : List Tally) : Type 0 where
  pub long : length new ≡ length old
  pub sums : (c : ℕ) → c < length old
      → (tally_at new c).sum
      ≡ (tally_at old c).sum + cond (differ (from == c) (to == c)) street.sum 0
  pub demands : (c : ℕ) → c < length old
      → (tally_at new c).demands
      ≡ (tally_at old c).demands + cond (differ (from == c) (to == c)) street.demands 0
