-- What the streets of a chain of sets have: their numbers times their distances, and the demands
-- that join its ends.
use Rattle.std.specs.Prelude.{◌≡◌, ℕ, ◌+◌, ◌-◌, ◌*◌, ◌^◌, ◌≤◌, Bool, cond, ◌&&◌, ◌||◌, if◌then◌else◌, ◌==◌, ◌%◌, nat_lt, nat_le, List}
use Rattle.std.specs.Int.{abs_diff}
use Rattle.wrp_town.specs.declared.town.Town.{Town}
use Rattle.wrp_town.specs.Streets.{forward_arc, backward_arc}
use Rattle.wrp_rules.specs.Rows.{joins_ends, chain_distance}
use Rattle.wrp_webs.specs.Webs.{sum_below}
use Rattle.wrp_webs.specs.TownWebs.{demand_count}
use Rattle.wrp_kc.specs.declared.chain.Chain.{Chain}

-- one of two sets is the first and the other the last
abbrev pub are_ends : ℕ → ℕ → ℕ → Bool
are_ends k a b = ((a == 0) && (b == k)) || ((a == k) && (b == 0))

-- how far apart two sets are, where the first and the last count as k - 2
abbrev pub distance : ℕ → ℕ → ℕ → ℕ
distance k a b = if are_ends k a b then k - 2 else abs_diff a b

-- the numbers of the first n streets, times their distances
abbrev pub weighed_sum : Town → (ℕ → ℕ) → ℕ → List ℕ → ℕ → ℕ
weighed_sum town x k of n =
    sum_below (λ s. chain_distance town k of (forward_arc s)
    * (x (forward_arc s) + x (backward_arc s))) n

-- the demands of the first n streets that join the first set and the last
abbrev pub joining_count : Town → ℕ → List ℕ → ℕ → ℕ
joining_count town k of n =
    sum_below (λ s. cond (joins_ends town k of (forward_arc s)) (demand_count town s) 0) n

-- both of the first n streets
pub record IsChain (town : Town) (x : ℕ → ℕ) (k : ℕ) (of : List ℕ) (n : ℕ) (chain : Chain)
    : Type 0 where
  pub sum : chain.sum ≡ weighed_sum town x k of n
  pub joining : chain.joining ≡ joining_count town k of n
  pub light : chain.sum ≤ n * 2 ^ 105
  pub few : chain.joining ≤ 2 * n

-- an even number of demands join the ends, at least two, and the numbers don't reach the right side
-- over e
abbrev pub is_broken : ℕ → ℕ → Chain → Bool
is_broken k e chain =
    (chain.joining % 2 == 0) && nat_le 2 chain.joining
    && nat_lt chain.sum (e * (2 * (k - 1) + (k - 2) * chain.joining))
