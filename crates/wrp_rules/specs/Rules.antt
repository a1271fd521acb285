-- The rules that a record keeps after a list of records, each record's in their order.
use Rattle.std.specs.Prelude.{ℕ, ◌*◌, ◌%◌, Bool, true, false, cond, ◌&&◌, ◌||◌, not, if◌then◌else◌, ◌==◌, nat_lt, nat_le, ℤ, pos, int_lt, int_le, List, [], ◌∷◌, length, slice_index, slice_get, Option, None, Some}
use Rattle.std.specs.Option.{option_map_or}
use Rattle.std.specs.List.{filter, list_any, list_all, sum_by, count_by, last_or}
use Rattle.wrp_sums.specs.Rounding.{ceil_div}
use Rattle.wrp_town.specs.declared.town.Town.{Town}
use Rattle.wrp_town.specs.Streets.{demands_at}
use Rattle.wrp_town.specs.Arcs.{is_legal, tail_of, head_of, legal_arcs, junctions, demands, cost_or_zero}
use Rattle.wrp_town.specs.Walks.{is_closed_walk, serves_all, walk_cost}
use Rattle.wrp_rules.specs.declared.record.Record.{Record}
use Rattle.wrp_rules.specs.declared.record.Record.TheVariants.{Tour, Conn, Odd, Round, Kc, Bound, Empty, Apart, Point, Blind, Split, Labels}
use Rattle.wrp_rules.specs.declared.rule.Rule.{Rule}
use Rattle.wrp_rules.specs.declared.rule.Rule.TheVariants as rules
use Rattle.wrp_rules.specs.Sets.{leaves, crossing_demands, is_parted}
use Rattle.wrp_rules.specs.Rows.{is_chain, is_wide, round_row}
use Rattle.wrp_rules.specs.Contents.{has_number_rules}
use Rattle.wrp_rules.specs.Nodes.{Node, Standing, node_at, bound_at, empty_value, is_open, is_below}

abbrev pub is_labels : Record → Bool
is_labels (Labels labels streets) = true
is_labels item = false

-- the record adds a row
abbrev pub is_cut : Record → Bool
is_cut (Conn r1 r2 set) = true
is_cut (Odd set) = true
is_cut (Round divisor mult) = true
is_cut (Kc k of) = true
is_cut item = false

-- a Point or Blind of this node
abbrev pub leads_to_split : ℕ → Record → Bool
leads_to_split split (Point node den numbers) = node == split
leads_to_split split (Blind node) = node == split
leads_to_split split item = false

-- a Labels record stands alone
abbrev pub is_alone : Standing → Record → Bool
is_alone s item =
    if is_labels item then length s.records == 0 else not (list_any is_labels s.records)

-- there is room for one more cut
abbrev pub has_room : Standing → Bool
has_room s = nat_lt (count_by is_cut s.records) 20000

-- the numbers are below n
abbrev pub all_below : ℕ → List ℕ → Bool
all_below n xs = list_all (λ x. nat_lt x n) xs

-- the streets and the junctions are there
abbrev pub streets_are_there : Town → List ℕ → Bool
streets_are_there town streets = all_below (length town.streets) streets

abbrev pub junctions_are_there : Town → List ℕ → Bool
junctions_are_there town set = all_below (length town.junctions) set

-- a set number from 0 to k for each junction
abbrev pub is_partition : Town → ℕ → List ℕ → Bool
is_partition town k of =
    (length of == length town.junctions) && nat_le 3 k && list_all (λ i. nat_le i k) of

-- the pairs name rows that are there
abbrev pub rows_are_there : Standing → List (ℕ × ℕ) → Bool
rows_are_there s mult = list_all (λ q. nat_lt q.0 (length s.rows)) mult

abbrev pub node_is_there : Standing → ℕ → Bool
node_is_there s node = nat_lt node (length s.nodes)

abbrev pub node_is_open : Town → Standing → ℕ → Bool
node_is_open town s node = is_open s.upper (node_at town s node)

-- the number of an arc in a Point, 0 where it isn't listed
abbrev pub number_at : List (ℕ × ℕ) → ℕ → ℕ
number_at numbers arc = sum_by (λ q. cond (q.0 == arc) q.1 0) numbers

-- each number is in the node's box, times the denominator
abbrev pub is_in_box : Town → Node → ℕ → List (ℕ × ℕ) → Bool
is_in_box town node den numbers =
    list_all (λ arc. nat_le (node.lo arc * den) (number_at numbers arc)
    && nat_le (number_at numbers arc) (node.hi arc * den)) (legal_arcs town)

-- the arcs with this end at junction j
abbrev pub arcs_at : (ℕ → ℕ) → ℕ → List ℕ → List ℕ
arcs_at end_of j arcs = filter (λ arc. end_of arc == j) arcs

-- as much leaves each junction as enters it
abbrev pub is_balanced : Town → List (ℕ × ℕ) → Bool
is_balanced town numbers =
    list_all (λ j. sum_by (number_at numbers) (arcs_at (tail_of town) j (legal_arcs town))
    == sum_by (number_at numbers) (arcs_at (head_of town) j (legal_arcs town))) (junctions town)

-- the legal arcs of each demand have at least the denominator
abbrev pub is_served : Town → ℕ → List (ℕ × ℕ) → Bool
is_served town den numbers =
    list_all (λ demand. nat_le den (sum_by (number_at numbers) (filter (is_legal town) demand)))
    (demands town)

-- what the numbers cost over the denominator, rounded up
abbrev pub price_of : Town → ℕ → List (ℕ × ℕ) → ℤ
price_of town den numbers =
    ceil_div (pos (sum_by (λ arc. cost_or_zero town arc * number_at numbers arc) (legal_arcs town)))
    den

abbrev pub int_eq : ℤ → ℤ → Bool
int_eq x y = int_le x y && int_le y x

-- the arc has both ends at the label
abbrev pub keeps_label : Town → List ℕ → ℕ → ℕ → Bool
keeps_label town labels label arc =
    (slice_index labels (tail_of town arc) == label)
    && (slice_index labels (head_of town arc) == label)

-- none of the demand's legal arcs has both ends at the label
abbrev pub leaves_label : Town → List ℕ → ℕ → List ℕ → Bool
leaves_label town labels label demand =
    list_all (λ arc. not (is_legal town arc && keeps_label town labels label arc)) demand

-- the street has such a demand
abbrev pub breaks_label : Town → List ℕ → ℕ → ℕ → Bool
breaks_label town labels label street =
    option_map_or (λ s. list_any (leaves_label town labels label) (demands_at street s.need))
    (slice_get town.streets street) false

-- no higher label follows along the arc
abbrev pub falls_along : Town → List ℕ → ℕ → Bool
falls_along town labels arc =
    nat_le (slice_index labels (head_of town arc)) (slice_index labels (tail_of town arc))

-- multipliers give a higher bound than the node has
abbrev pub raises_bound : Town → Standing → ℕ → ℕ → List (ℕ × ℕ) → Bool
raises_bound town s node den mult =
    int_lt (node_at town s node).bound (bound_at town s node den mult)

-- the number parts the range of uses of the arc in two
abbrev pub parts_range : Node → ℕ → ℕ → Bool
parts_range node arc k = nat_le (node.lo arc) k && nat_lt k (node.hi arc)

-- a rule and whether it is kept; the first that isn't
abbrev pub first_broken : List (Rule × Bool) → Option Rule
first_broken [] = None
first_broken ((rule, is_kept) ∷ others) = if is_kept then first_broken others else Some rule

-- the rules of each kind of record
abbrev pub rules_of : Town → Standing → Record → List (Rule × Bool)
rules_of town s (Tour cost steps) =
    (rules.Range, list_all (λ step. nat_lt step.street (length town.streets)) steps)
    ∷ (rules.Walk, is_closed_walk town steps)
    ∷ (rules.Serve, serves_all town steps)
    ∷ (rules.Cost, walk_cost town steps == cost)
    ∷ (rules.Dear, is_below (pos cost) s.upper) ∷ []
rules_of town s (Conn r1 r2 set) =
    (rules.Range, streets_are_there town (r1 ∷ r2 ∷ []) && junctions_are_there town set)
    ∷ (rules.Cuts, has_room s)
    ∷ (rules.Cross, is_parted town r1 r2 set) ∷ []
rules_of town s (Odd set) =
    (rules.Range, junctions_are_there town set)
    ∷ (rules.Cuts, has_room s)
    ∷ (rules.Even, not (crossing_demands town set % 2 == 0)) ∷ []
rules_of town s (Round divisor mult) =
    (rules.Range, rows_are_there s mult)
    ∷ (rules.Cuts, has_room s)
    ∷ (rules.Wide, not (is_wide town (round_row s.rows divisor mult))) ∷ []
rules_of town s (Kc k of) =
    (rules.Range, is_partition town k of)
    ∷ (rules.Cuts, has_room s)
    ∷ (rules.Chain, is_chain town k of) ∷ []
rules_of town s (Bound node den mult) =
    (rules.Range, node_is_there s node && rows_are_there s mult)
    ∷ (rules.Closed, node_is_open town s node)
    ∷ (rules.Low, raises_bound town s node den mult) ∷ []
rules_of town s (Empty node mult) =
    (rules.Range, node_is_there s node && rows_are_there s mult)
    ∷ (rules.Closed, node_is_open town s node)
    ∷ (rules.Low, int_lt (pos 0) (empty_value town s.rows (node_at town s node) mult)) ∷ []
rules_of town s (Apart node r1 r2 set) = (
  rules.Range,
  node_is_there s node && streets_are_there town (r1 ∷ r2 ∷ [])
      && junctions_are_there town set,
)
    ∷ (rules.Closed, node_is_open town s node)
    ∷ (rules.Cross, is_parted town r1 r2 set)
    ∷ (
      rules.Leak,
      list_all (λ arc. not (leaves town set arc) || ((node_at town s node).hi arc == 0))
          (legal_arcs town),
    ) ∷ []
rules_of town s (Point node den numbers) =
    (rules.Range, node_is_there s node && list_all (λ q. is_legal town q.0) numbers)
    ∷ (rules.Closed, node_is_open town s node)
    ∷ (rules.Box, is_in_box town (node_at town s node) den numbers)
    ∷ (rules.Balance, is_balanced town numbers)
    ∷ (rules.Service, is_served town den numbers)
    ∷ (rules.Price, int_eq (price_of town den numbers) (node_at town s node).bound) ∷ []
rules_of town s (Blind node) =
    (rules.Range, node_is_there s node)
    ∷ (rules.Closed, node_is_open town s node) ∷ []
rules_of town s (Split node arc k) =
    (rules.Range, node_is_there s node && is_legal town arc)
    ∷ (rules.Closed, node_is_open town s node)
    ∷ (rules.Alone, option_map_or (leads_to_split node) (last_or None s.records) false)
    ∷ (rules.Part, parts_range (node_at town s node) arc k) ∷ []
rules_of town s (Labels labels streets) = (
  rules.Range,
  (length labels == length town.junctions) && nat_lt 0 (length streets)
      && all_below (length streets) labels && streets_are_there town streets,
)
    ∷ (rules.Rise, list_all (falls_along town labels) (legal_arcs town))
    ∷ (
      rules.Label,
      list_all (λ label. breaks_label town labels label (slice_index streets label))
          labels,
    ) ∷ []

-- the rules of every record, before those of its kind
abbrev pub common_rules : Standing → Record → List (Rule × Bool) → List (Rule × Bool)
common_rules s item others =
    (rules.Number, has_number_rules item) ∷ (rules.Lonely, is_alone s item) ∷ others

-- the first rule that a record breaks after a list of records, if it breaks one
abbrev pub broken_rule : Town → Standing → Record → Option Rule
broken_rule town s item =
    first_broken (common_rules s item (rules_of town s item))
