-- A point meets the connectivity rows where enough leaves each set between one street and each other
-- one.
use Rattle.std.proofs.Common.{◌≡◌, ◌≢◌, ℕ, ◌*◌, ◌<◌, ◌≤◌, true, false, ◌&&◌, not, ℤ, pos, List, [], ◌∷◌, length, Contains, Option, ap, sym, ◌∙◌, subst, arith}
use Rattle.std.specs.List.{All}
use Rattle.std.proofs.lemmas.Bool.{and_parts, not-true}
use Rattle.std.proofs.lemmas.List.Elements.{All-contains}
use Rattle.wrp_town.specs.declared.town.Town.{Town}
use Rattle.wrp_town.specs.Arcs.{tail_of, head_of, is_required}
use Rattle.wrp_town.proofs.TownLaws.{tail_of-below}
use Rattle.wrp_town.proofs.Members.{inside_cases, inside_none}
use Rattle.wrp_rules.specs.Sets.{is_in, lies_in, lies_outside, is_parted}
use Rattle.wrp_parts.specs.RequiredParts.{AreParts}
use Rattle.wrp_webs.specs.TownWebs.{part_node, out_of_set}
use Rattle.wrp_webs.proofs.ConnRows.{conn_row_met}
use Rattle.wrp_flow.specs.declared.net.Net.{Net}
use Rattle.wrp_flow.specs.Flows.{LeavesAll}
use Rattle.wrp_rows.specs.declared.point.Point.{Point}
use Rattle.wrp_odd.specs.Points.{denominator_of, numbers_of}
use Rattle.wrp_conn.specs.Conns.{IsBalancedPoint, IsConnected}
use Rattle.wrp_conn.specs.Shrunk.{ArePartStreets, named_by, AreNodes, LeavesAsAt, streets_in, IsFar}
use Rattle.wrp_conn.proofs.Conns.{enough_leaves, keeps_parts, uncrossed_by_test}
use Rattle.wrp_conn.proofs.Cuts.{on}
use Rattle.wrp_conn.proofs.Nodes.{required_there, street_stands}
use Rattle.wrp_conn.proofs.Points.{denominator_is}

-- two required streets, one of which begins in the set and one outside
record AreBetween (town : Town) (set : List ℕ) (r1 r2 : ℕ) : Type 0 where
  first : is_required town r1 ≡ true
  second : is_required town r2 ≡ true
  holds : is_in set (tail_of town (2 * r1)) ≡ true
  leaves_out : is_in set (tail_of town (2 * r2)) ≡ false

between : (town : Town) (r1 r2 : ℕ) (set : List ℕ) → is_parted town r1 r2 set ≡ true → AreBetween town set r1 r2
between town r1 r2 set parted =
    let last = and_parts (is_required town r1 && is_required town r2 && lies_in town set r1) (lies_outside town set r2) parted in
    let two = and_parts (is_required town r1 && is_required town r2) (lies_in town set r1) last.0 in
    let one = and_parts (is_required town r1) (is_required town r2) two.0 in
    let inside = and_parts (is_in set (tail_of town (2 * r1))) (is_in set (head_of town (2 * r1))) two.1 in
    let out = and_parts (not (is_in set (tail_of town (2 * r2)))) (not (is_in set (head_of town (2 * r2)))) last.1 in
    record { first = one.0; second = one.1; holds = inside.0; leaves_out = not-true (is_in set (tail_of town (2 * r2))) out.0 }

begins_below : (town : Town) (r : ℕ) → is_required town r ≡ true → tail_of town (2 * r) < length town.junctions
begins_below town r required = tail_of-below town (2 * r) (omega (arith, required_there town r required))

module _ (town : Town) (count : ℕ) (of streets : List (Option ℕ)) (parts : AreParts town count of) (all : ArePartStreets town count of (length town.streets) streets) where
  -- without a street of a part there is no such set
  pub met_without : (point : Point) → streets_in streets ≡ [] → IsConnected town point
  met_without point none = λ r1 r2 set parted uncrossed.
      let stands = street_stands town count of streets parts all r1 (between town r1 r2 set parted).first in
      absurd (inside_none stands.0 (subst (λ (xs : List ℕ). Contains xs stands.0) none stands.1))

  module _ (point : Point) (is : IsBalancedPoint town point) (nodes : List ℕ) (at_nodes : AreNodes town of streets nodes) (net : Net) (leaves : LeavesAsAt town nodes (numbers_of point) (2 * length town.streets) net)
      (first : ℕ) (others : List ℕ) (listed : streets_in streets ≡ first ∷ others) (far : All (IsFar town net point.den first) others) where
    -- a street of a part begins at the junction
    abbrev BeginsAt : ℕ → Type 0
    BeginsAt t = (r : ℕ) × (Contains (streets_in streets) r) × (tail_of town (2 * r) ≡ t)

    leaves_all : (t : ℕ) → BeginsAt t → tail_of town (2 * first) ≢ t → LeavesAll net (tail_of town (2 * first)) t (pos (denominator_of point))
    leaves_all t (r, inside, at) apart =
        inside_cases (LeavesAll net (tail_of town (2 * first)) t (pos (denominator_of point))) first others r (subst (λ (xs : List ℕ). Contains xs r) listed inside) (λ same. absurd (apart (ap (λ (s : ℕ). tail_of town (2 * s)) same ∙ at)))
        (λ other. subst (λ (z : ℤ). LeavesAll net (tail_of town (2 * first)) t z) (sym (denominator_is town point is))
        (subst (λ (k : ℕ). LeavesAll net (tail_of town (2 * first)) k point.den) at (All-contains (IsFar town net point.den first) others r far other (λ same. apart (same ∙ at)))))

    pub met_when_far : IsConnected town point
    met_when_far = λ r1 r2 set parted uncrossed.
        let are = between town r1 r2 set parted in
        let one = street_stands town count of streets parts all r1 are.first in
        let two = street_stands town count of streets parts all r2 are.second in
        let keeps = keeps_parts town count of streets parts all (is_in set) (uncrossed_by_test town set uncrossed) in
        let enough : denominator_of point ≤ out_of_set town (numbers_of point) (is_in set) =
        enough_leaves town of streets nodes at_nodes (numbers_of point) net (denominator_of point) (tail_of town (2 * first)) BeginsAt (on town point is) is.balanced leaves leaves_all (is_in set)
        (part_node of (named_by town streets) (tail_of town (2 * r1))) (part_node of (named_by town streets) (tail_of town (2 * r2))) keeps one two
        (keeps (tail_of town (2 * r1)) (begins_below town r1 are.first) ∙ are.holds) (keeps (tail_of town (2 * r2)) (begins_below town r2 are.second) ∙ are.leaves_out) in
        (conn_row_met town (numbers_of point) (denominator_of point) (on town point is) set).1 enough
