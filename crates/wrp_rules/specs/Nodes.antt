-- What a list of records stands for: rows, nodes with boxes and bounds, and the cheapest tour.
use Rattle.std.specs.Prelude.{ℕ, zero, suc, ◌+◌, Bool, true, false, ◌&&◌, not, if◌then◌else◌, ◌==◌, min, ℤ, pos, int_lt, List, [], ◌∷◌, ◌++◌, length, slice_index_or, Option, None, Some}
use Rattle.std.specs.Int.{int_min}
use Rattle.std.specs.Option.{option_map, option_or, option_to_list, option_map_or}
use Rattle.std.specs.List.{filter, fold, count_by}
use Rattle.wrp_sums.specs.Rounding.{ceil_div}
use Rattle.wrp_sums.specs.Duality.{Program, dual_value}
use Rattle.wrp_town.specs.declared.town.Town.{Town}
use Rattle.wrp_town.specs.Arcs.{legal_arcs, cost_or_zero, demands}
use Rattle.wrp_rules.specs.declared.record.Record.{Record}
use Rattle.wrp_rules.specs.declared.record.Record.TheVariants.{Tour, Bound, Empty, Apart, Split}
use Rattle.wrp_rules.specs.Rows.{Row, base_rows, row_at, row_of}

-- a part of the search: the least and the greatest number of uses of each arc, and a bound of each
-- tour within; closed where it was split or emptied
pub record Node : Type 0 where
  pub lo : ℕ → ℕ
  pub hi : ℕ → ℕ
  pub bound : ℤ
  pub is_closed : Bool

-- each arc from 0 times to as often as there are demands
abbrev pub root : Town → Node
root town = record {
  lo = λ arc. 0;
  hi = λ arc. length (demands town);
  bound = pos 0;
  is_closed = false;
}

-- what a list of records stands for
pub record Standing : Type 0 where
  -- the records themselves
  pub records : List Record
  -- the rows, those of the cuts last
  pub rows : List Row
  pub nodes : List Node
  -- the cost of the cheapest tour
  pub upper : Option ℕ

-- before any record
abbrev pub start : Town → Standing
start town = record { records = []; rows = base_rows town; nodes = root town ∷ []; upper = None }

-- the problem of a node: the cheapest numbers of uses in its box that meet the rows
abbrev pub program : Town → List Row → Node → Program
program town rows node = record {
  arcs = legal_arcs town;
  coef = λ i. (row_at rows i).coef;
  right_side = λ i. (row_at rows i).right_side;
  cost = cost_or_zero town;
  lo = node.lo;
  hi = node.hi;
}

-- the same with every cost 0
abbrev pub free_program : Town → List Row → Node → Program
free_program town rows node = record {
  arcs = legal_arcs town;
  coef = λ i. (row_at rows i).coef;
  right_side = λ i. (row_at rows i).right_side;
  cost = λ arc. 0;
  lo = node.lo;
  hi = node.hi;
}

-- the value of multipliers over a denominator, rounded up: a bound of each tour within the node
abbrev pub bound_value : Town → List Row → Node → ℕ → List (ℕ × ℕ) → ℤ
bound_value town rows node den mult = ceil_div (dual_value (program town rows node) den mult) den

-- the value with every cost 0: above 0, no tour is within the node
abbrev pub empty_value : Town → List Row → Node → List (ℕ × ℕ) → ℤ
empty_value town rows node mult = dual_value (free_program town rows node) 1 mult

-- the node of this number, or the root
abbrev pub node_at : Town → Standing → ℕ → Node
node_at town s i = slice_index_or s.nodes i (root town)

-- the bound that multipliers give the node of this number
abbrev pub bound_at : Town → Standing → ℕ → ℕ → List (ℕ × ℕ) → ℤ
bound_at town s i den mult = bound_value town s.rows (node_at town s i) den mult

-- the node with that bound; the node closed
abbrev pub with_bound : ℤ → Node → Node
with_bound bound node = record node { bound = bound }

abbrev pub closed : Node → Node
closed node = record node { is_closed = true }

-- the number of uses of one arc at most k, or at least k; all else as it was
abbrev pub at_most : ℕ → ℕ → Node → Node
at_most arc k node = record node { hi = λ a. if a == arc then k else node.hi a }

abbrev pub at_least : ℕ → ℕ → Node → Node
at_least arc k node = record node { lo = λ a. if a == arc then k else node.lo a }

-- the nodes, the one of this number changed
abbrev pub changed : (Node → Node) → ℕ → List Node → List Node
changed change i [] = []
changed change zero (node ∷ nodes) = change node ∷ nodes
changed change (suc i) (node ∷ nodes) = node ∷ changed change i nodes

-- the nodes after one more record
abbrev pub nodes_after : Town → Standing → Record → List Node
nodes_after town s (Bound node den mult) =
    changed (with_bound (bound_at town s node den mult)) node s.nodes
nodes_after town s (Empty node mult) = changed closed node s.nodes
nodes_after town s (Apart node r1 r2 set) = changed closed node s.nodes
nodes_after town s (Split node arc k) =
    changed closed node s.nodes
    ++ at_most arc k (node_at town s node) ∷ at_least arc (k + 1) (node_at town s node) ∷ []
nodes_after town s item = s.nodes

-- the cost of the cheapest tour after one more record
abbrev pub upper_after : Option ℕ → Record → Option ℕ
upper_after upper (Tour cost steps) = Some (option_map_or (min cost) upper cost)
upper_after upper item = upper

-- what stands after one more record
abbrev pub after : Town → Standing → Record → Standing
after town s item = record {
  records = s.records ++ item ∷ [];
  rows = s.rows ++ option_to_list (row_of town s.rows item);
  nodes = nodes_after town s item;
  upper = upper_after s.upper item;
}

-- what stands after a list of records
abbrev pub standing : Town → List Record → Standing
standing town records = fold (after town) (start town) records

-- the bound is below the cheapest tour, or there is none
abbrev pub is_below : ℤ → Option ℕ → Bool
is_below bound None = true
is_below bound (Some cost) = int_lt bound (pos cost)

-- a node is open where it isn't closed and its bound is below the cheapest tour
abbrev pub is_open : Option ℕ → Node → Bool
is_open upper node = not node.is_closed && is_below node.bound upper

-- the nodes that are open
abbrev pub open_nodes : Standing → List Node
open_nodes s = filter (is_open s.upper) s.nodes

-- the number of nodes that aren't open
abbrev pub done : Standing → ℕ
done s = count_by (λ node. not (is_open s.upper node)) s.nodes

-- the least bound of these nodes
abbrev pub least_bound : List Node → Option ℤ
least_bound [] = None
least_bound (node ∷ nodes) =
    Some (option_map_or (int_min node.bound) (least_bound nodes) node.bound)

-- the least bound of the open nodes, else the cost of the cheapest tour
abbrev pub lower : Standing → Option ℤ
lower s = option_or (least_bound (open_nodes s)) (option_map pos s.upper)
