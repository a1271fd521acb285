-- The network of a town: which junctions are neighbours, and what ways over neighbours say of the town.
use Rattle.std.proofs.Common.{◌≡◌, ℕ, zero, suc, ◌+◌, ◌-◌, ◌*◌, ◌/◌, ◌%◌, ◌<◌, Bool, true, false, cond, ◌==◌, nat_lt, List, [], ◌∷◌, length, map, get_or, refl, sym, ap, ◌∙◌, subst, inl, inr, arith, Option, Some, eq-eqb}
use Rattle.std.specs.Prelude.{◌&&◌, ◌||◌, slice_get}
use Rattle.std.specs.List.{Contains, filter, list_any, range_with_len}
use Rattle.std.proofs.lemmas.Bool.{cases_lt, cases_eq, eqb-true, ne_eqb}
use Rattle.std.proofs.lemmas.Bool.Decides.{nat_tests}
use Rattle.std.proofs.lemmas.List.{get_or-map, length-map, get_or_past}
use Rattle.std.proofs.lemmas.List.Elements.{Contains-get_or, Contains-append_right, All-filter, All-contains_itself, filter_passes}
use Rattle.std.proofs.lemmas.List.FromFn.{get_or-map-range_with_len, length-map-range_with_len, length-range_with_len, get_or-range_with_len}
use Rattle.wrp_town.specs.declared.street.Street.{Street}
use Rattle.wrp_town.specs.declared.town.Town.{Town}
use Rattle.wrp_town.specs.Arcs.{arcs, is_required, tail_of, head_of, street_of}
use Rattle.wrp_town.proofs.TownLaws.{street_of_below, tail_of-at, head_of-at, tail_of-below, head_of-below, few_junctions}
use Rattle.wrp_graph.specs.Pieces.{Joined, here, along}
use Rattle.wrp_graph.proofs.Joins.{joined_keeps}
use Rattle.wrp_parts.specs.RequiredParts.{is_of_required, ends_required, part_at}
use Rattle.wrp_parts.specs.Neighbours.{required_arcs, neighbours_at, neighbours_of}
use Rattle.wrp_parts.specs.Traversal.{next_to, IsNetwork, Reached, stay, go, HaveParts}
use Rattle.wrp_parts.proofs.Visits.{no_item}

-- ---- items of lists

-- an item of a mapped list comes from an item
from_mapped : (f : ℕ → ℕ) (xs : List ℕ) (y : ℕ) → Contains (map f xs) y → (x : ℕ) × Contains xs x × (f x ≡ y)
from_mapped f xs y (k, small, is) =
    let inside : k < length xs = omega (arith, length-map xs f) in
    (get_or xs k 0, Contains-get_or xs k 0 inside, sym (get_or-map f xs k 0 y inside) ∙ is)

into_mapped : (f : ℕ → ℕ) (xs : List ℕ) (x : ℕ) → Contains xs x → Contains (map f xs) (f x)
into_mapped f xs x (k, small, is) = (k, omega (arith, length-map xs f), get_or-map f xs k x (f x) small ∙ ap f is)

passes : (p : ℕ → Bool) (xs : List ℕ) (x : ℕ) → Contains (filter p xs) x → p x ≡ true
passes p xs x (k, small, is) = subst (λ z. p z ≡ true) is (filter_passes p xs k x small)

from_filtered : (p : ℕ → Bool) (xs : List ℕ) (x : ℕ) → Contains (filter p xs) x → Contains xs x
from_filtered p xs x (k, small, is) = subst (λ z. Contains xs z) is (All-filter p (Contains xs) xs (All-contains_itself xs) k x small)

over_cond : (b : Bool) (y x : ℕ) (xs : List ℕ) → Contains xs x → Contains (cond b (y ∷ xs) xs) x
over_cond true y x xs has = Contains-append_right (y ∷ []) xs x has
over_cond false y x xs has = has

into_filtered : (p : ℕ → Bool) (xs : List ℕ) (x : ℕ) → Contains xs x → p x ≡ true → Contains (filter p xs) x
into_filtered p [] x has holds = absurd (no_item x has)
into_filtered p (y ∷ xs) x (zero, small, is) holds =
    subst (λ (b : Bool). Contains (cond b (y ∷ filter p xs) (filter p xs)) x) (sym (subst (λ z. p z ≡ true) (sym is) holds)) (0, omega arith, is)
into_filtered p (y ∷ xs) x (suc k, small, is) holds = over_cond (p y) y x (filter p xs) (into_filtered p xs x (k, omega arith, is) holds)

from_arcs : (n x : ℕ) → Contains (range_with_len 0 n) x → x < n
from_arcs n x (k, small, is) = let inside : k < n = omega (arith, length-range_with_len 0 n) in omega (arith, is, get_or-range_with_len 0 n k x inside)

into_arcs : (n x : ℕ) → x < n → Contains (range_with_len 0 n) x
into_arcs n x small = (x, omega (arith, length-range_with_len 0 n), get_or-range_with_len 0 n x x small ∙ omega arith)

-- ---- arcs between neighbours

-- an arc of a required street leads from one junction to the other
pub record IsEdge (town : Town) (j k : ℕ) : Type 0 where
  pub arc : ℕ
  pub below : arc < 2 * length town.streets
  pub required : is_of_required town arc ≡ true
  pub tail : tail_of town arc ≡ j
  pub head : head_of town arc ≡ k

row_inside : (town : Town) (j : ℕ) → j < length town.junctions → next_to (neighbours_of town) j ≡ neighbours_at town j
row_inside town j small = get_or-map-range_with_len (neighbours_at town) 0 (length town.junctions) j j [] small (omega arith)

pub length-rows : (town : Town) → length (neighbours_of town) ≡ length town.junctions
length-rows town = length-map-range_with_len (neighbours_at town) 0 (length town.junctions)

edge_inside : (town : Town) (j k : ℕ) → Contains (neighbours_at town j) k → IsEdge town j k
edge_inside town j k near =
    let arc = from_mapped (head_of town) (filter (λ (a : ℕ). tail_of town a == j) (required_arcs town)) k near in
    let taken = from_filtered (λ (a : ℕ). tail_of town a == j) (required_arcs town) arc.0 arc.1 in
    record {
      arc = arc.0;
      below = from_arcs (2 * length town.streets) arc.0 (from_filtered (is_of_required town) (arcs town) arc.0 taken);
      required = passes (is_of_required town) (arcs town) arc.0 taken;
      tail = eqb-true (tail_of town arc.0) j (passes (λ (a : ℕ). tail_of town a == j) (required_arcs town) arc.0 arc.1);
      head = arc.2;
    }

pub edge_from : (town : Town) (j k : ℕ) → Contains (next_to (neighbours_of town) j) k → IsEdge town j k
edge_from town j k near =
    elim (cases_lt j (length town.junctions)) [
      | inl small ↦ edge_inside town j k (subst (λ (xs : List ℕ). Contains xs k) (row_inside town j small) near)
      | inr past ↦ absurd (no_item k (subst (λ (xs : List ℕ). Contains xs k) (get_or_past (neighbours_of town) j [] (omega (arith, length-rows town))) near))
    ]

pub edge_into : (town : Town) (j k : ℕ) → IsEdge town j k → Contains (next_to (neighbours_of town) j) k
edge_into town j k e =
    let small : j < length town.junctions = omega (arith, tail_of-below town e.arc e.below, e.tail) in
    let taken = into_filtered (is_of_required town) (arcs town) e.arc (into_arcs (2 * length town.streets) e.arc e.below) e.required in
    let leaves = into_filtered (λ (a : ℕ). tail_of town a == j) (required_arcs town) e.arc taken (eq-eqb (tail_of town e.arc) j e.tail) in
    subst (λ (xs : List ℕ). Contains xs k) (sym (row_inside town j small))
    (subst (λ z. Contains (neighbours_at town j) z) e.head (into_mapped (head_of town) (filter (λ (a : ℕ). tail_of town a == j) (required_arcs town)) e.arc leaves))

-- ---- the same street the other way

-- the ends of an arc with an even number, and with an odd one
even_ends : (town : Town) (arc : ℕ) (street : Street) → street_of town arc ≡ Some street → arc % 2 ≡ 0 → (tail_of town arc ≡ street.from) × (head_of town arc ≡ street.to)
even_ends town arc street is even =
    let test = eq-eqb (arc % 2) 0 even in
    (tail_of-at town arc street is ∙ ap (λ (b : Bool). cond b street.from street.to) test, head_of-at town arc street is ∙ ap (λ (b : Bool). cond b street.to street.from) test)

odd_ends : (town : Town) (arc : ℕ) (street : Street) → street_of town arc ≡ Some street → (arc % 2 ≡ 0 → ⊥) → (tail_of town arc ≡ street.to) × (head_of town arc ≡ street.from)
odd_ends town arc street is odd =
    let test = ne_eqb (arc % 2) 0 odd in
    (tail_of-at town arc street is ∙ ap (λ (b : Bool). cond b street.from street.to) test, head_of-at town arc street is ∙ ap (λ (b : Bool). cond b street.to street.from) test)

-- two arcs of one street, one even and one odd, have each other's ends
pub arcs_turned : (town : Town) (a b : ℕ) → a < 2 * length town.streets → b / 2 ≡ a / 2 → a % 2 ≡ 0 → (b % 2 ≡ 0 → ⊥) → (tail_of town b ≡ head_of town a) × (head_of town b ≡ tail_of town a)
arcs_turned town a b below half even odd =
    let street = street_of_below town a below in
    let first = even_ends town a street.0 street.1 even in
    let second = odd_ends town b street.0 (ap (λ (h : ℕ). slice_get town.streets h) half ∙ street.1) odd in
    (second.0 ∙ sym first.1, second.1 ∙ sym first.0)

edge_of_other : (town : Town) (j k : ℕ) (e : IsEdge town j k) (b : ℕ) → b < 2 * length town.streets → b / 2 ≡ e.arc / 2 → (tail_of town b ≡ head_of town e.arc) × (head_of town b ≡ tail_of town e.arc) → IsEdge town k j
edge_of_other town j k e b below half ends = record {
  arc = b;
  below = below;
  required = ap (λ (h : ℕ). is_required town h) half ∙ e.required;
  tail = ends.0 ∙ e.head;
  head = ends.1 ∙ e.tail;
}

other_ends : (town : Town) (a b : ℕ) → b < 2 * length town.streets → b / 2 ≡ a / 2 → (a % 2 ≡ 0 → ⊥) → b % 2 ≡ 0 → (tail_of town b ≡ head_of town a) × (head_of town b ≡ tail_of town a)
other_ends town a b below half odd even = let ends = arcs_turned town b a below (sym half) even odd in (sym ends.1, sym ends.0)

pub edge_back : (town : Town) (j k : ℕ) → IsEdge town j k → IsEdge town k j
edge_back town j k e =
    let arc = e.arc in
    let below = e.below in
    elim (cases_eq (arc % 2) 0) [
      | inl even ↦ edge_of_other town j k e (arc + 1) (omega arith) (omega arith) (arcs_turned town arc (arc + 1) below (omega arith) even (λ other. omega arith))
      | inr odd ↦ edge_of_other town j k e (arc - 1) (omega arith) (omega arith) (other_ends town arc (arc - 1) (omega arith) (omega arith) odd (omega arith))
    ]

pub town_network : (town : Town) → IsNetwork (neighbours_of town)
town_network town = record {
  few = omega (arith, length-rows town, few_junctions town);
  below = λ j k near. let e = edge_from town j k near in omega (arith, head_of-below town e.arc e.below, e.head, length-rows town);
  back = λ j k near. edge_into town k j (edge_back town j k (edge_from town j k near));
}

-- ---- ways and pieces

pub joined_from_reached : (town : Town) (i j : ℕ) → Reached (neighbours_of town) i j → Joined town (is_of_required town) i j
joined_from_reached town i j (stay m) = here m
joined_from_reached town i j (go m a n first rest) =
    let e = edge_from town m a first in
    subst (λ z. Joined town (is_of_required town) z n) e.tail
    (along e.arc n e.below e.required (subst (λ z. Joined town (is_of_required town) z n) (sym e.head) (joined_from_reached town a n rest)))

edge_along : (town : Town) (arc : ℕ) → arc < 2 * length town.streets → is_of_required town arc ≡ true → IsEdge town (tail_of town arc) (head_of town arc)
edge_along town arc below required = record { arc = arc; below = below; required = required; tail = refl; head = refl }

-- what is joined with a junction has its part
pub part_of_joined : (town : Town) (i j count part : ℕ) (of : List (Option ℕ)) → HaveParts (neighbours_of town) count of → Joined town (is_of_required town) i j → part_at of i ≡ Some part → part_at of j ≡ Some part
part_of_joined town i j count part of parts joined is =
    joined_keeps (λ k. part_at of k ≡ Some part) town (is_of_required town)
    (λ arc below required has. parts.closed (tail_of town arc) (head_of town arc) part (edge_into town (tail_of town arc) (head_of town arc) (edge_along town arc below required)) has)
    (λ arc below required has. parts.closed (head_of town arc) (tail_of town arc) part (edge_into town (head_of town arc) (tail_of town arc) (edge_back town (tail_of town arc) (head_of town arc) (edge_along town arc below required))) has)
    i j joined is

-- ---- where required streets end

some_test : (n : ℕ) → nat_lt 0 (suc n) ≡ true
some_test n = grind (arith, nat_tests)

any_step : (q p : Bool) (x : ℕ) (f : ℕ → Bool) (xs : List ℕ) → f x ≡ p → nat_lt 0 (length (filter f (cond q (x ∷ xs) xs))) ≡ ((q && p) || nat_lt 0 (length (filter f xs)))
any_step true true x f xs is = subst (λ (b : Bool). nat_lt 0 (length (cond b (x ∷ filter f xs) (filter f xs))) ≡ true) (sym is) (some_test (length (filter f xs)))
any_step true false x f xs is = subst (λ (b : Bool). nat_lt 0 (length (cond b (x ∷ filter f xs) (filter f xs))) ≡ nat_lt 0 (length (filter f xs))) (sym is) refl
any_step false p x f xs is = refl

any_both : (q p : ℕ → Bool) (xs : List ℕ) → list_any (λ x. q x && p x) xs ≡ nat_lt 0 (length (filter p (filter q xs)))
any_both q p [] = refl
any_both q p (x ∷ xs) = ap (λ (b : Bool). (q x && p x) || b) (any_both q p xs) ∙ sym (any_step (q x) (p x) x p (filter q xs) refl)

pub ended_test : (town : Town) (j : ℕ) → j < length town.junctions → ends_required town j ≡ nat_lt 0 (length (next_to (neighbours_of town) j))
ended_test town j small =
    any_both (is_of_required town) (λ (a : ℕ). tail_of town a == j) (arcs town)
    ∙ ap (λ (n : ℕ). nat_lt 0 n) (sym (length-map (filter (λ (a : ℕ). tail_of town a == j) (required_arcs town)) (head_of town)))
    ∙ ap (λ (xs : List ℕ). nat_lt 0 (length xs)) (sym (row_inside town j small))
