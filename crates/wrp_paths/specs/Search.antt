-- What a search for shortest walks keeps true. Its table holds the walks to the junctions that are
-- settled, and its queue the walks that go on from these by one arc.
use Rattle.std.specs.Prelude.{◌≡◌, ℕ, ◌+◌, ◌*◌, ◌<◌, ◌≤◌, Bool, true, false, not, ◌&&◌, ◌||◌, ◌==◌, nat_le, List, length, map, Some, is_some, All, count_by}
use Rattle.std.specs.List.{list_any, filter}
use Rattle.std.specs.Option.{option_map_or}
use Rattle.std.specs.declared.cmp.Ordering.{Ordering}
use Rattle.std.specs.Ordering.{nat_cmp, ordering_then}
use Rattle.std.specs.declared.cmp.Reverse.{Reverse}
use Rattle.wrp_town.specs.declared.town.Town.{Town}
use Rattle.wrp_town.specs.Arcs.{tail_of, head_of, is_legal, cost_or_zero}
use Rattle.wrp_paths.specs.declared.arrival.Arrival.{Arrival}
use Rattle.wrp_paths.specs.Arrivals.{Table, along, entry_at}

-- the walks that wait in the queue
abbrev pub Waiting : Type 0
Waiting = List (Reverse Arrival)

-- a walk of no steps, or one that goes on along a legal arc from a junction of the table
pub data IsWalk (town : Town) (from : ℕ) (table : Table) (walk : Arrival) : Type 0 where
  begins : walk.junction ≡ from → walk.cost ≡ 0 → walk.hops ≡ 0 → IsWalk town from table walk
  goes_on : (earlier : Arrival) → entry_at table walk.before ≡ Some earlier
      → is_legal town walk.arc ≡ true → tail_of town walk.arc ≡ walk.before
      → walk ≡ along town earlier walk.arc → IsWalk town from table walk

-- a junction is settled at no more than a cost
abbrev pub is_settled : Table → ℕ → ℕ → Bool
is_settled table j cost = option_map_or (λ walk. nat_le walk.cost cost) (entry_at table j) false

-- a walk to a junction is in the queue, and costs no more than this
abbrev pub is_queued : Waiting → ℕ → ℕ → Bool
is_queued queue j cost = list_any (λ q. q.0.junction == j && nat_le q.0.cost cost) queue

-- a walk to a junction is known that costs no more than this
abbrev pub is_known : Table → Waiting → ℕ → ℕ → Bool
is_known table queue j cost = is_settled table j cost || is_queued queue j cost

-- the number of junctions that aren't settled
abbrev pub unsettled : Table → ℕ
unsettled table = count_by (λ entry. not (is_some entry)) table

-- what the search keeps true
pub record IsSearch (town : Town) (from : ℕ) (table : Table) (queue : Waiting) : Type 0 where
  -- the table has an entry for each junction
  pub each : length table ≡ length town.junctions
  -- settled junctions have their walks, and the queue has walks
  pub settled : (j : ℕ) (walk : Arrival) → entry_at table j ≡ Some walk
      → (walk.junction ≡ j) × IsWalk town from table walk
  pub waiting : All (λ q. IsWalk town from table q.0) queue
  -- the numbers in the queue are small
  pub inside : All (λ q. q.0.junction < length town.junctions) queue
  pub few : All (λ q. q.0.hops + unsettled table ≤ length town.junctions) queue
  pub cheap : All (λ q. q.0.cost ≤ 1000000000 * q.0.hops) queue
  -- what is settled costs no more than what waits
  pub ordered : (j : ℕ) (walk : Arrival) → entry_at table j ≡ Some walk
      → All (λ q. walk.cost ≤ q.0.cost) queue
  -- the first junction is known, and so are the heads of the arcs that leave settled ones
  pub begun : is_known table queue from 0 ≡ true
  pub followed : (arc : ℕ) (walk : Arrival) → is_legal town arc ≡ true
      → entry_at table (tail_of town arc) ≡ Some walk
      → is_known table queue (head_of town arc) (walk.cost + cost_or_zero town arc) ≡ true

-- the walks that go on from a walk along one of the arcs, to a junction that isn't settled
abbrev pub leads_on : Town → Table → ℕ → Bool
leads_on town table arc = not (is_some (entry_at table (head_of town arc)))

abbrev pub onward : Town → Table → Arrival → List ℕ → Waiting
onward town table walk arcs =
    map (λ arc. record { 0 = along town walk arc }) (filter (leads_on town table) arcs)

-- how much of the search is left: a junction that is settled puts as many walks as arcs leave it
-- into the queue
abbrev pub work_left : Town → Table → Waiting → ℕ
work_left town table queue = unsettled table * (2 * length town.streets + 1) + length queue

-- walks are compared by their costs first
abbrev pub compare_walks : Arrival → Arrival → Ordering
compare_walks x y =
    ordering_then (nat_cmp x.cost y.cost)
    (ordering_then (nat_cmp x.hops y.hops)
    (ordering_then (nat_cmp x.junction y.junction)
    (ordering_then (nat_cmp x.before y.before) (nat_cmp x.arc y.arc))))

-- the order of the queue, which gives its greatest first: a walk of less cost is greater
abbrev pub dearer_first : Reverse Arrival → Reverse Arrival → Ordering
dearer_first x y = compare_walks y.0 x.0
