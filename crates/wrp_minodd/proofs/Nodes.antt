-- Odd nodes by tallies, and lists of them.
use Rattle.std.proofs.Common.{◌≡◌, ℕ, ◌%◌, ◌<◌, Bool, true, false, cond, ◌==◌, List, [], ◌∷◌, length, filter, get_or, Contains, ap, sym, ◌∙◌, subst, arith, eq-eqb}
use Rattle.std.proofs.lemmas.Bool.{eqb-true}
use Rattle.wrp_sums.specs.Sums.{numbers_below}
use Rattle.wrp_sums.proofs.FirstNumbers.{inside_filter, passes_of_inside, inside_numbers_below, below_of_inside}
use Rattle.wrp_town.specs.declared.town.Town.{Town}
use Rattle.wrp_town.proofs.Members.{inside_head, inside_tail, inside_cases}
use Rattle.wrp_laws.specs.Sides.{goes_over}
use Rattle.wrp_laws.proofs.Crossings.{over_both_ways}
use Rattle.wrp_rows.specs.declared.point.Point.{Point}
use Rattle.wrp_webs.specs.Webs.{degrees, class, IsOddNode}
use Rattle.wrp_webs.specs.Searching.{reading}
use Rattle.wrp_webs.proofs.Demands.{count_by_streets, degrees_are_crossings}
use Rattle.wrp_webs.proofs.LegalSums.{range_numbers}
use Rattle.wrp_odd.specs.Points.{denominator_of, numbers_of}
use Rattle.wrp_odd.specs.declared.tally.Tally.{Tally}
use Rattle.wrp_odd.specs.Crossing.{crossing_count, AreTallies}
use Rattle.wrp_odd.proofs.ClassCuts.{tally_read}
use Rattle.wrp_minodd.specs.Looks.{web_of, odd_nodes_of}

-- the degrees of a set are as odd as the demands that cross it
pub degrees_by_streets : (town : Town) (point : Point) (set : ℕ → Bool) → degrees (web_of town point) set % 2 ≡ crossing_count town set (length town.streets) % 2
degrees_by_streets town point set =
    degrees_are_crossings town (denominator_of point) (numbers_of point) set
    ∙ ap (λ (n : ℕ). n % 2) (count_by_streets (goes_over town set) (over_both_ways town set) town)

-- what is kept was there
member_of_filter : (p : ℕ → Bool) (xs : List ℕ) (x : ℕ) → Contains (filter p xs) x → Contains xs x
member_of_filter p [] x inside = inside
member_of_filter p (y ∷ xs) x inside = by (p y) inside (member_of_filter p xs x)
  where
    by : (b : Bool) → Contains (cond b (y ∷ filter p xs) (filter p xs)) x → (Contains (filter p xs) x → Contains xs x) → Contains (y ∷ xs) x
    by true there rest = inside_cases (Contains (y ∷ xs) x) y (filter p xs) x there (λ same. subst (λ (z : ℕ). Contains (y ∷ xs) z) same (inside_head y xs)) (λ other. inside_tail y xs x (rest other))
    by false there rest = inside_tail y xs x (rest there)

-- the list of odd nodes has those that are odd
pub node_from_list : (town : Town) (point : Point) (map : List ℕ) (node : ℕ) → Contains (odd_nodes_of town point map) node → IsOddNode (web_of town point) (reading map) node
node_from_list town point map node inside =
    let test : ℕ → Bool = λ k. degrees (web_of town point) (class (reading map) k) % 2 == 1 in
    let there = subst (λ (xs : List ℕ). Contains (filter test xs) node) (range_numbers (length town.junctions)) inside in
    record {
      below = below_of_inside (length town.junctions) node (member_of_filter test (numbers_below (length town.junctions)) node there);
      odd = eqb-true (degrees (web_of town point) (class (reading map) node) % 2) 1 (passes_of_inside test (numbers_below (length town.junctions)) node there);
    }

pub list_from_node : (town : Town) (point : Point) (map : List ℕ) (node : ℕ) → IsOddNode (web_of town point) (reading map) node → Contains (odd_nodes_of town point map) node
list_from_node town point map node is =
    let test : ℕ → Bool = λ k. degrees (web_of town point) (class (reading map) k) % 2 == 1 in
    subst (λ (xs : List ℕ). Contains (filter test xs) node) (sym (range_numbers (length town.junctions)))
    (inside_filter test (numbers_below (length town.junctions)) node (inside_numbers_below (length town.junctions) node is.below) (eq-eqb _ _ is.odd))

-- a node is odd where its tally's demands are
pub node_by_tally : (town : Town) (point : Point) (map : List ℕ) (tallies : List Tally) → AreTallies town (numbers_of point) map (length town.streets) tallies → (node : ℕ) → node < length town.junctions
    → (tally : Tally) → tally ≡ get_or tallies node tally → degrees (web_of town point) (class (reading map) node) % 2 ≡ tally.demands % 2
node_by_tally town point map tallies are node below tally read =
    degrees_by_streets town point (class (reading map) node)
    ∙ ap (λ (n : ℕ). n % 2) (sym (ap (λ (t : Tally). t.demands) (tally_read tallies node tally read (omega (arith, are.long))) ∙ are.demands node below))
