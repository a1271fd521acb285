-- What was seen at all pairs, as an answer.
use Rattle.std.proofs.Common.{◌≡◌, ◌≢◌, ℕ, zero, suc, ◌%◌, ◌<◌, ◌≤◌, Bool, true, false, cond, ◌==◌, List, [], ◌∷◌, length, filter, drop, get_or, Contains, AllPairs, Option, None, Some, ap, refl, sym, ◌∙◌, subst, inl, inr, arith, eq-eqb}
use Rattle.std.specs.List.{All}
use Rattle.std.specs.Prelude.{IfSome}
use Rattle.std.proofs.lemmas.Bool.{cases_eq, eqb-true}
use Rattle.std.proofs.lemmas.List.{get_or_default}
use Rattle.std.proofs.lemmas.List.Kept.{AllPairs-filter}
use Rattle.std.proofs.lemmas.List.Elements.{Contains-get_or}
use Rattle.wrp_sums.specs.Sums.{numbers_below}
use Rattle.wrp_sums.proofs.FirstNumbers.{ascending-numbers_below}
use Rattle.wrp_town.specs.declared.town.Town.{Town}
use Rattle.wrp_town.proofs.Members.{inside_cases}
use Rattle.wrp_rows.specs.declared.point.Point.{Point}
use Rattle.wrp_webs.specs.Webs.{sum_below, cut, degrees, class, IsOddNode, odd_nodes}
use Rattle.wrp_webs.specs.Searching.{reading, IsPending}
use Rattle.wrp_webs.proofs.SumsBelow.{term_sum}
use Rattle.wrp_webs.proofs.LegalSums.{range_numbers}
use Rattle.wrp_webs.proofs.OddRows.{town_is_web}
use Rattle.wrp_odd.specs.Points.{denominator_of, numbers_of}
use Rattle.wrp_minodd.specs.declared.pairs.Best.{Best}
use Rattle.wrp_minodd.specs.declared.pairs.Seen.{Seen}
use Rattle.wrp_minodd.specs.declared.look.Look.TheVariants.{Far, Found, Split}
use Rattle.wrp_minodd.specs.Looks.{web_of, odd_nodes_of, inner, IsBest, least_of, IsOtherNode, HasSeenAll, Shows}
use Rattle.wrp_minodd.proofs.Farness.{none_when_far, least_when_far}
use Rattle.wrp_minodd.proofs.Nodes.{node_from_list, list_from_node}

-- ---- odd nodes

positive_term : (f : ℕ → ℕ) (n : ℕ) → 0 < sum_below f n → (i : ℕ) × (i < n) × (0 < f i)
positive_term f zero some = absurd (omega arith)
positive_term f (suc n) some =
    elim (cases_eq (f n) 0) [
      | inl none ↦ (let rest = positive_term f n (omega arith) in (rest.0, omega arith, rest.2))
      | inr here ↦ (n, omega arith, omega arith)
    ]

one_passes : (b : Bool) → 0 < cond {A = ℕ} b 1 0 → b ≡ true
one_passes true some = refl
one_passes false some = absurd (omega arith)

-- where there is an odd node, the list has one
pub some_listed : (town : Town) (point : Point) (map : List ℕ) → 0 < odd_nodes (web_of town point) (reading map) → 0 < length (odd_nodes_of town point map)
some_listed town point map some =
    let term = positive_term (λ k. cond (degrees (web_of town point) (class (reading map) k) % 2 == 1) 1 0) (length town.junctions) some in
    let inside = list_from_node town point map term.0 (record { below = term.1; odd = eqb-true (degrees (web_of town point) (class (reading map) term.0) % 2) 1 (one_passes _ term.2) }) in
    omega (arith, inside.1)

pub some_counted : (town : Town) (point : Point) (map : List ℕ) → 0 < length (odd_nodes_of town point map) → 0 < odd_nodes (web_of town point) (reading map)
some_counted town point map some =
    let node = get_or (odd_nodes_of town point map) 0 0 in
    let is = node_from_list town point map node (Contains-get_or (odd_nodes_of town point map) 0 0 some) in
    omega (
      arith,
      term_sum (λ k. cond (degrees (web_of town point) (class (reading map) k) % 2 == 1) 1 0) node (length town.junctions) is.below,
      ap (λ (b : Bool). cond {A = ℕ} b 1 0) (eq-eqb (degrees (web_of town point) (class (reading map) node) % 2) 1 is.odd),
    )

nodes_ascend : (town : Town) (point : Point) (map : List ℕ) → AllPairs (λ a b. a < b) (odd_nodes_of town point map)
nodes_ascend town point map =
    let test : ℕ → Bool = λ k. degrees (web_of town point) (class (reading map) k) % 2 == 1 in
    subst (λ (xs : List ℕ). AllPairs (λ a b. a < b) (filter test xs)) (sym (range_numbers (length town.junctions)))
    (AllPairs-filter (λ a b. a < b) test (numbers_below (length town.junctions)) (ascending-numbers_below (length town.junctions)))

-- the first odd node and the others
pub record IsHeaded (town : Town) (point : Point) (map : List ℕ) (s : ℕ) (rest : List ℕ) : Type 0 where
  pub first : IsOddNode (web_of town point) (reading map) s
  pub others : All (IsOtherNode (web_of town point) (reading map) s) rest
  pub all : (v : ℕ) → IsOddNode (web_of town point) (reading map) v → v ≢ s → Contains rest v

pub headed : (town : Town) (point : Point) (map nodes : List ℕ) → nodes ≡ odd_nodes_of town point map → 0 < length nodes → IsHeaded town point map (get_or nodes 0 0) (drop 1 nodes)
headed town point map [] is some = absurd (omega arith)
headed town point map (s ∷ rest) is some = record {
  first = from_list s (0, omega arith, refl);
  others = λ k d below. record {
    is_odd = from_list (get_or rest k d) (suc k, omega arith, inside_at rest k d below);
    other = λ same. (let less = ascends 0 (suc k) d (omega arith) (omega arith) in absurd (omega arith));
  };
  all = λ v odd differs. inside_cases (Contains rest v) s rest v (subst (λ (xs : List ℕ). Contains xs v) (sym is) (list_from_node town point map v odd)) (λ same. absurd (differs (sym same))) (λ inside. inside);
}
  where
    from_list : (v : ℕ) → Contains (s ∷ rest) v → IsOddNode (web_of town point) (reading map) v
    from_list v inside = node_from_list town point map v (subst (λ (xs : List ℕ). Contains xs v) is inside)

    ascends : AllPairs (λ a b. a < b) (s ∷ rest)
    ascends = subst (AllPairs (λ a b. a < b)) (sym is) (nodes_ascend town point map)

    inside_at : (xs : List ℕ) (k d : ℕ) → k < length xs → get_or xs k (get_or xs k d) ≡ get_or xs k d
    inside_at xs k d below = get_or_default xs k (get_or xs k d) d below

-- ---- the answer

module _ (town : Town) (point : Point) (map : List ℕ) (s : ℕ) (seen : Seen) (pending : IsPending (web_of town point) map) (first : IsOddNode (web_of town point) (reading map) s) (all : HasSeenAll town point map s seen) where
  pub shows_found : 0 < length seen.records.items → Shows town point map (Found seen.records)
  shows_found some = (all.has.broken, some)

  pub shows_far : seen.best ≡ None → Shows town point map Far
  shows_far none =
      none_when_far (web_of town point) (reading map) pending.merge s (denominator_of point)
      (λ v odd differs set keeps holds out. subst (λ (o : Option Best). least_of (denominator_of point) o ≤ cut (web_of town point) set) none (all.has.far v (all.all v odd differs) set keeps holds out))
      (town_is_web town (denominator_of point) (numbers_of point))

  pub shows_split : (best : Best) → seen.best ≡ Some best → length seen.records.items ≡ 0 → Shows town point map (Split best.inside s best.t)
  shows_split best some none =
      let is = subst (λ (o : Option Best). IfSome o (IsBest (web_of town point) (denominator_of point) (reading map) s (length seen.records.items))) some all.has.best in (
        least_when_far (web_of town point) (reading map) pending.merge s best.value
            (λ v odd differs set keeps holds out. subst (λ (o : Option Best). least_of (denominator_of point) o ≤ cut (web_of town point) set) some (all.has.far v (all.all v odd differs) set keeps holds out))
            (inner best.inside.items) best.t first is.node is.keeps is.holds is.leaves_out is.value,
        even_of (degrees (web_of town point) (inner best.inside.items)) (λ odd. absurd (omega (arith, is.even odd))),
        is.long ∙ sym pending.count,
        is.two,
      )
    where
      even_of : (n : ℕ) → (n % 2 ≡ 1 → ⊥) → n % 2 ≡ 0
      even_of n differs = elim (cases_eq (n % 2) 1) [ inl odd ↦ absurd (differs odd) | inr even ↦ omega arith ]
