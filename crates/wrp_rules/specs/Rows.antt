-- The rows of a list of records: sums of arcs that are at least a right side for every tour.
use Rattle.std.specs.Prelude.{ℕ, ◌+◌, ◌-◌, ◌*◌, ◌%◌, ◌^◌, Bool, ◌&&◌, ◌||◌, not, if◌then◌else◌, ◌==◌, nat_le, ℤ, pos, ◌-ℤ◌, ◌*ℤ◌, List, ◌++◌, map, length, slice_index, slice_index_or, Option, None, Some, unsigned_abs}
use Rattle.std.specs.Int.{abs_diff}
use Rattle.std.specs.List.{list_any, list_all, count_by, range_with_len}
use Rattle.wrp_sums.specs.Sums.{sum_over}
use Rattle.wrp_sums.specs.Rounding.{ceil_div}
use Rattle.wrp_town.specs.declared.town.Town.{Town}
use Rattle.wrp_town.specs.Streets.{forward_arc}
use Rattle.wrp_town.specs.Arcs.{tail_of, head_of, legal_arcs, junctions, demands, has_arc, is_required}
use Rattle.wrp_rules.specs.declared.record.Record.{Record}
use Rattle.wrp_rules.specs.declared.record.Record.TheVariants.{Conn, Odd, Round, Kc}
use Rattle.wrp_rules.specs.Sets.{leaves, crosses, crossing_demands, arc_at}

-- the sum over legal arcs of coefficient times number is at least the right side
pub record Row : Type 0 where
  pub coef : ℕ → ℤ
  pub right_side : ℤ

-- 1 where the test holds, else 0
abbrev pub one_if : Bool → ℤ
one_if test = if test then pos 1 else pos 0

-- leaving minus entering at a junction
abbrev pub balance_row : Town → ℕ → Row
balance_row town j = record {
  coef = λ arc. one_if (tail_of town arc == j) -ℤ one_if (head_of town arc == j);
  right_side = pos 0;
}

-- the arcs of a demand
abbrev pub service_row : List ℕ → Row
service_row demand = record { coef = λ arc. one_if (has_arc demand arc); right_side = pos 1 }

-- the rows before any cut: one for each junction, then one for each demand
abbrev pub base_rows : Town → List Row
base_rows town = map (balance_row town) (junctions town) ++ map service_row (demands town)

-- the row of this number; 0 at least 0 where there is none
abbrev pub row_at : List Row → ℕ → Row
row_at rows i = slice_index_or rows i (record { coef = λ arc. pos 0; right_side = pos 0 })

-- the arcs that leave the set
abbrev pub conn_row : Town → List ℕ → Row
conn_row town set = record { coef = λ arc. one_if (leaves town set arc); right_side = pos 1 }

-- the arcs that cross the set
abbrev pub odd_row : Town → List ℕ → Row
odd_row town set = record {
  coef = λ arc. one_if (crosses town set arc);
  right_side = pos (crossing_demands town set + 1);
}

-- the rows times their multipliers, divided by the divisor and rounded up
abbrev pub round_row : List Row → ℕ → List (ℕ × ℕ) → Row
round_row rows divisor mult = record {
  coef = λ arc. ceil_div (sum_over (λ q. pos q.1 *ℤ (row_at rows q.0).coef arc) mult) divisor;
  right_side = ceil_div (sum_over (λ q. pos q.1 *ℤ (row_at rows q.0).right_side) mult) divisor;
}

-- the sets of the two ends of an arc are the first and the last
abbrev pub joins_ends : Town → ℕ → List ℕ → ℕ → Bool
joins_ends town k of arc =
    ((slice_index of (tail_of town arc) == 0) && (slice_index of (head_of town arc) == k))
    || ((slice_index of (tail_of town arc) == k) && (slice_index of (head_of town arc) == 0))

-- how many demands have a street that joins the first set and the last
abbrev pub joining_demands : Town → ℕ → List ℕ → ℕ
joining_demands town k of = count_by (λ demand. joins_ends town k of (arc_at demand)) (demands town)

-- how far apart the sets of the two ends of an arc are, where the first and the last count as k - 2
abbrev pub chain_distance : Town → ℕ → List ℕ → ℕ → ℕ
chain_distance town k of arc =
    if joins_ends town k of arc then k - 2
    else abs_diff (slice_index of (tail_of town arc)) (slice_index of (head_of town arc))

abbrev pub kc_row : Town → ℕ → List ℕ → Row
kc_row town k of = record {
  coef = λ arc. pos (chain_distance town k of arc);
  right_side = pos (2 * (k - 1) + (k - 2) * joining_demands town k of);
}

-- the required street lies wholly in set i
abbrev pub is_held : Town → List ℕ → ℕ → ℕ → Bool
is_held town of i street =
    is_required town street && (slice_index of (tail_of town (forward_arc street)) == i)
    && (slice_index of (head_of town (forward_arc street)) == i)

-- each set but the first and the last wholly holds a required street
abbrev pub inner_sets_hold : Town → ℕ → List ℕ → Bool
inner_sets_hold town k of =
    list_all (λ i. list_any (is_held town of i) (range_with_len 0 (length town.streets)))
    (range_with_len 1 (k - 1))

-- both ends of the street are in one set
abbrev pub keeps_set : List ℕ → Town → ℕ → Bool
keeps_set of town street =
    slice_index of (tail_of town (forward_arc street))
    == slice_index of (head_of town (forward_arc street))

-- no required street joins two different sets other than the first and the last
abbrev pub streets_keep_sets : Town → ℕ → List ℕ → Bool
streets_keep_sets town k of =
    list_all (λ street. not (is_required town street) || joins_ends town k of (forward_arc street)
    || keeps_set of town street) (range_with_len 0 (length town.streets))

-- the conditions of a K-C cut, beside the range of its numbers
abbrev pub is_chain : Town → ℕ → List ℕ → Bool
is_chain town k of =
    inner_sets_hold town k of && (joining_demands town k of % 2 == 0)
    && nat_le 2 (joining_demands town k of) && streets_keep_sets town k of

-- the row that a record adds to these
abbrev pub row_of : Town → List Row → Record → Option Row
row_of town rows (Conn r1 r2 set) = Some (conn_row town set)
row_of town rows (Odd set) = Some (odd_row town set)
row_of town rows (Round divisor mult) = Some (round_row rows divisor mult)
row_of town rows (Kc k of) = Some (kc_row town k of)
row_of town rows item = None

-- the greatest size of a coefficient and of the right side of a rounding
abbrev pub most_coefficient : ℕ
most_coefficient = 2 ^ 20

-- a coefficient at a legal arc or the right side is above that in size
abbrev pub is_wide : Town → Row → Bool
is_wide town row =
    not (nat_le (unsigned_abs row.right_side) most_coefficient
    && list_all (λ arc. nat_le (unsigned_abs (row.coef arc)) most_coefficient) (legal_arcs town))
