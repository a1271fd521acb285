-- The arcs that leave a marked set, and whether they can be used in a box.
use Rattle.std.proofs.Common.{◌≡◌, ℕ, ◌<◌, Bool, true, false, cond, not, ◌&&◌, ◌||◌, ◌==◌, nat_lt, List, [], ◌∷◌, length, filter, ap, refl, ◌∙◌}
use Rattle.std.specs.Prelude.{slice_index}
use Rattle.std.specs.List.{list_all}
use Rattle.std.proofs.lemmas.Bool.{and_parts, ltb-true}
use Rattle.wrp_town.specs.declared.town.Town.{Town}
use Rattle.wrp_town.specs.Arcs.{is_legal, tail_of, head_of, legal_arcs, arcs}
use Rattle.wrp_rules.specs.Nodes.{Node, Standing}
use Rattle.wrp_rules.specs.Rules.{node_is_there, streets_are_there, junctions_are_there}
use Rattle.wrp_rules.specs.Sets.{is_in, leaves}
use Rattle.wrp_rows.specs.declared.point.Bounds.{Bounds}
use Rattle.wrp_rows.specs.Marks.{is_marked, AreMarks}
use Rattle.wrp_rows.specs.Points.{AreBoundsOf}
use Rattle.wrp_tree.specs.Leaks.{stays_at}

all_same : (p q test : ℕ → Bool) (xs : List ℕ) → ((x : ℕ) → test x ≡ true → p x ≡ q x) → list_all p (filter test xs) ≡ list_all q (filter test xs)
all_same p q test [] same = refl
all_same p q test (x ∷ xs) same = by (test x) refl (all_same p q test xs same)
  where
    by : (t : Bool) → test x ≡ t → list_all p (filter test xs) ≡ list_all q (filter test xs) → list_all p (cond t (x ∷ filter test xs) (filter test xs)) ≡ list_all q (cond t (x ∷ filter test xs) (filter test xs))
    by true told rest = ap (λ (t : Bool). t && list_all p (filter test xs)) (same x told) ∙ ap (λ (t : Bool). q x && t) rest
    by false told rest = rest

pub shut_same : (town : Town) (set : List ℕ) (marks : List Bool) (node : Node) (bounds : Bounds) → AreMarks set marks → AreBoundsOf town node bounds
    → list_all (stays_at town marks bounds.hi) (legal_arcs town) ≡ list_all (λ arc. not (leaves town set arc) || (node.hi arc == 0)) (legal_arcs town)
shut_same town set marks node bounds marked box =
    all_same (stays_at town marks bounds.hi) (λ arc. not (leaves town set arc) || (node.hi arc == 0)) (is_legal town) (arcs town)
    (λ arc legal.
    ap (λ (t : Bool). not (t && not (is_marked marks (head_of town arc))) || (slice_index bounds.hi arc == 0)) (marked (tail_of town arc))
    ∙ ap (λ (t : Bool). not (is_in set (tail_of town arc) && not t) || (slice_index bounds.hi arc == 0)) (marked (head_of town arc))
    ∙ ap (λ (n : ℕ). not (leaves town set arc) || (n == 0)) (box.hi arc legal))

-- a node, both streets and a set that are there
pub record AreThere (town : Town) (s : Standing) (node r1 r2 : ℕ) (set : List ℕ) : Type 0 where
  pub node_is : node_is_there s node ≡ true
  pub first : r1 < length town.streets
  pub second : r2 < length town.streets
  pub set_is : junctions_are_there town set ≡ true

pub are_there : (town : Town) (s : Standing) (node r1 r2 : ℕ) (set : List ℕ) → (node_is_there s node && streets_are_there town (r1 ∷ r2 ∷ []) && junctions_are_there town set) ≡ true → AreThere town s node r1 r2 set
are_there town s node r1 r2 set all =
    let one = and_parts (node_is_there s node && streets_are_there town (r1 ∷ r2 ∷ [])) (junctions_are_there town set) all in
    let two = and_parts (node_is_there s node) (streets_are_there town (r1 ∷ r2 ∷ [])) one.0 in
    let three = and_parts (nat_lt r1 (length town.streets)) (nat_lt r2 (length town.streets) && true) two.1 in
    let four = and_parts (nat_lt r2 (length town.streets)) true three.1 in
    record { node_is = two.0; first = ltb-true r1 (length town.streets) three.0; second = ltb-true r2 (length town.streets) four.0; set_is = one.1 }
