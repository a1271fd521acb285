-- The web of a town at a point, whose light odd sets are the broken odd rows.
use Rattle.std.specs.Prelude.{◌≡◌, ℕ, ◌+◌, ◌-◌, ◌*◌, ◌%◌, ◌<◌, ◌≤◌, Bool, true, false, not, ◌==◌, pos, List, length, Contains, slice_get, Option}
use Rattle.std.specs.Option.{option_map_or}
use Rattle.std.specs.List.{count_by}
use Rattle.wrp_town.specs.declared.town.Town.{Town}
use Rattle.wrp_town.specs.Streets.{demands_at, forward_arc, backward_arc}
use Rattle.wrp_town.specs.Arcs.{is_legal, tail_of, head_of, demands}
use Rattle.wrp_rules.specs.Rows.{balance_row, service_row, odd_row}
use Rattle.wrp_rules.specs.Ranges.{is_set}
use Rattle.wrp_rules.specs.Rules.{all_below}
use Rattle.wrp_rules.specs.Sets.{arc_at, crossing_demands}
use Rattle.wrp_laws.specs.Meets.{sum_of_counts}
use Rattle.wrp_laws.specs.Points.{MeetsOver}
use Rattle.wrp_parts.specs.RequiredParts.{is_of_required, part_at}
use Rattle.wrp_webs.specs.Webs.{Web, differ}
use Rattle.wrp_webs.specs.Nets.{leaving}

-- no number on illegal arcs
abbrev pub IsOnLegal : Town → (ℕ → ℕ) → Type 0
IsOnLegal town x = (arc : ℕ) → is_legal town arc ≡ false → x arc ≡ 0

-- the numbers over e meet every service row
abbrev pub MeetsServices : Town → ℕ → (ℕ → ℕ) → Type 0
MeetsServices town e x = (demand : List ℕ) → Contains (demands town) demand
    → MeetsOver town e x (service_row demand)

-- as much leaves each junction as enters it
abbrev pub IsBalanced : Town → (ℕ → ℕ) → Type 0
IsBalanced town x = (j : ℕ) → j < length town.junctions
    → sum_of_counts town x (balance_row town j).coef ≡ pos 0

-- how many demands a street has
abbrev pub demand_count : Town → ℕ → ℕ
demand_count town s =
    option_map_or (λ street. length (demands_at s street.need)) (slice_get town.streets s) 0

-- how many demands that aren't loops end at the junction
abbrev pub demand_ends : Town → ℕ → ℕ
demand_ends town j =
    count_by (λ d. differ (tail_of town (arc_at d) == j) (head_of town (arc_at d) == j))
    (demands town)

-- what a street has beyond its demands
abbrev pub spare : Town → ℕ → (ℕ → ℕ) → ℕ → ℕ
spare town e x s = x (forward_arc s) + x (backward_arc s) - e * demand_count town s

-- streets as links, demand ends as degrees
abbrev pub town_web : Town → ℕ → (ℕ → ℕ) → Web
town_web town e x = record {
  junctions = length town.junctions;
  degree = demand_ends town;
  links = length town.streets;
  one = λ s. tail_of town (forward_arc s);
  two = λ s. head_of town (forward_arc s);
  weight = spare town e x;
}

-- what leaves a set of junctions
abbrev pub out_of_set : Town → (ℕ → ℕ) → (ℕ → Bool) → ℕ
out_of_set town x set = leaving (2 * length town.streets) (tail_of town) (head_of town) x set

-- a set with the one node and without the other that the least leaves, of all such that keep classes
pub record IsLeastOut (town : Town) (x : ℕ → ℕ) (at : ℕ → ℕ) (s t : ℕ) (set : ℕ → Bool)
    : Type 0 where
  pub keeps : (j : ℕ) → j < length town.junctions → set (at j) ≡ set j
  pub holds : set s ≡ true
  pub leaves_out : set t ≡ false
  pub least : (other : ℕ → Bool)
      → ((j : ℕ) → j < length town.junctions → other (at j) ≡ other j)
      → other s ≡ true → other t ≡ false → out_of_set town x set ≤ out_of_set town x other

-- the junction that stands for a junction's part: the one that is named for the part, or the
-- junction itself where it has none
abbrev pub part_node : List (Option ℕ) → (ℕ → ℕ) → ℕ → ℕ
part_node of named j = option_map_or named (part_at of j) j

-- no required street has one end in the set
abbrev pub IsUncrossed : Town → (ℕ → Bool) → Type 0
IsUncrossed town set =
    (arc : ℕ) → arc < 2 * length town.streets → is_of_required town arc ≡ true
    → set (tail_of town arc) ≡ set (head_of town arc)

-- a set for an Odd record: it keeps the record's rules but for the room, and the numbers break its
-- row
pub record IsBrokenOdd (town : Town) (e : ℕ) (x : ℕ → ℕ) (set : List ℕ) : Type 0 where
  pub is_set : is_set set ≡ true
  pub below : all_below (length town.junctions) set ≡ true
  pub odd : not (crossing_demands town set % 2 == 0) ≡ true
  pub broken : MeetsOver town e x (odd_row town set) → ⊥
