-- The least bound of a valid list is at most the cost of every tour.
use Rattle.std.proofs.Common.{◌≡◌, ℕ, zero, suc, ◌+◌, ◌^◌, ◌<◌, ◌≤◌, min, Bool, true, false, cond, ◌&&◌, ◌||◌, not, ◌==◌, List, [], ◌∷◌, ◌++◌, length, get_or, filter, Option, None, Some, is_none, IfSome, ℤ, pos, ◌≤ℤ◌, ◌<ℤ◌, int_lt, ap, refl, sym, ◌∙◌, subst, inl, inr, ◌⊎◌, ⊎_elim, arith}
use Rattle.std.specs.Option.{option_map, option_map_or, option_or}
use Rattle.std.specs.Int.{int_min}
use Rattle.std.specs.List.{list_all}
use Rattle.std.proofs.lemmas.Bool.{and_parts, and_from, or_cases, eqb-true, ltb-true, cases_eq, cases_lt, true≢false, not-true}
use Rattle.wrp_sums.proofs.Integers.{linear, tests}
use Rattle.wrp_sums.proofs.FirstNumbers.{passes_of_inside}
use Rattle.wrp_sums.proofs.WeakDuality.{no_solution}
use Rattle.wrp_town.specs.declared.street.Step.{Step}
use Rattle.wrp_town.specs.declared.town.Town.{Town}
use Rattle.wrp_town.specs.Arcs.{is_legal, legal_arcs, arcs, demands, arc_of}
use Rattle.wrp_town.specs.Walks.{is_tour, walk_cost, count_of, HasNoTour}
use Rattle.wrp_town.proofs.WalkLaws.{tour_closed, tour_legal}
use Rattle.wrp_town.proofs.Members.{member_passes}
use Rattle.wrp_town.proofs.ServiceLaws.{counted_from_step}
use Rattle.wrp_rules.specs.declared.record.Record.{Record}
use Rattle.wrp_rules.specs.declared.record.Record.TheVariants.{Tour, Conn, Odd, Round, Kc, Bound, Empty, Apart, Point, Blind, Split, Labels}
use Rattle.wrp_rules.specs.Rows.{Row}
use Rattle.wrp_rules.specs.Sets.{is_in, leaves}
use Rattle.wrp_rules.specs.Nodes.{Node, root, Standing, start, node_at, with_bound, closed, at_most, at_least, changed, free_program, bound_value, empty_value, is_open, is_below, open_nodes, least_bound, lower, after, standing}
use Rattle.wrp_rules.specs.Ranges.{is_from_one, is_count, are_multipliers}
use Rattle.wrp_rules.specs.Rules.{broken_rule, node_is_there, rows_are_there}
use Rattle.wrp_rules.specs.Lists.{is_valid}
use Rattle.wrp_rules.proofs.LegalArcs.{inside_legal}
use Rattle.wrp_laws.proofs.BaseRows.{meets_all, meets_at}
use Rattle.wrp_laws.proofs.DualBounds.{IsWithin, bound_within, solves}
use Rattle.wrp_laws.proofs.Rules.{rules_kept, all_rules, HasTour}
use Rattle.wrp_laws.specs.Boxes.{IsInside}
use Rattle.wrp_laws.proofs.Thinning.{each_arc_at_most}
use Rattle.wrp_laws.proofs.Crossings.{outs, leaves_parted, member_from_positive}
use Rattle.wrp_laws.proofs.CutRows.{goes_on_keeps, AreMet, rows_after, from_one}
use Rattle.wrp_laws.proofs.Boxes.{length-changed, changed_at, changed_other, changed_keeps, AreSplit, are_split, same_box, into_first, into_second, out_of_first, out_of_second, SplitsBy, splits_by}

-- ---- a tour in a box

abbrev InBox : Town → Node → List Step → Type 0
InBox town node steps = IsInside town node (count_of steps)

within_from_inside : (town : Town) (node : Node) (steps : List Step) → InBox town node steps → IsWithin town node steps
within_from_inside town node steps inside = record {
  at_least = λ arc there. inside.at_least arc (passes_of_inside (is_legal town) (arcs town) arc there);
  at_most = λ arc there. inside.at_most arc (passes_of_inside (is_legal town) (arcs town) arc there);
}

-- the multipliers of an emptied node leave no tour in it
emptied : (town : Town) (rows : List Row) (node : Node) (mult : List (ℕ × ℕ)) (steps : List Step) → AreMet town rows → pos 0 <ℤ empty_value town rows node mult → is_tour town steps ≡ true → InBox town node steps → ⊥
emptied town rows node mult steps met above tour inside =
    let s = solves town rows node mult steps (λ i. meets_at town steps rows i (met steps tour)) (within_from_inside town node steps inside) in
    no_solution (free_program town rows node) 1 mult (count_of steps) (omega arith) (λ a there. refl) above
    (record { at_least = s.at_least; at_most = s.at_most; meets = s.meets })

-- nor do sets that no arc may leave
shut_in : (town : Town) (node : Node) (r1 r2 : ℕ) (set : List ℕ) (steps : List Step) → list_all (λ arc. not (leaves town set arc) || (node.hi arc == 0)) (legal_arcs town) ≡ true → is_tour town steps ≡ true → InBox town node steps → 0 < outs town (is_in set) steps → ⊥
shut_in town node r1 r2 set steps shut tour inside left =
    let m = member_from_positive (λ step. leaves town set (arc_of step)) steps left in
    let legal : is_legal town (arc_of m.0) ≡ true = member_passes (λ step. is_legal town (arc_of step)) steps m.0 (tour_legal town steps tour) m.1 in
    let there = inside_legal town (arc_of m.0) legal in
    let test = member_passes (λ arc. not (leaves town set arc) || (node.hi arc == 0)) (legal_arcs town) (arc_of m.0) shut there in
    let high = inside.at_most (arc_of m.0) legal in
    let used = counted_from_step steps m.0 m.1 in
    elim (or_cases (not (leaves town set (arc_of m.0))) (node.hi (arc_of m.0) == 0) test) [
      | inl stays ↦ absurd (true≢false (sym m.2 ∙ not-true _ stays))
      | inr none ↦ (let e = eqb-true (node.hi (arc_of m.0)) 0 none in omega arith)
    ]

-- ---- what stands

-- an unclosed node in whose box the tour is
abbrev Reached : Town → Standing → List Step → Type 0
Reached town s steps = (i : ℕ) × (i < length s.nodes) × ((node_at town s i).is_closed ≡ false) × (InBox town (node_at town s i) steps)

-- every tour meets the rows, costs at least the bound of each node in which it is, and is in an unclosed node if it
-- uses no arc more often than there are demands; upper is the cost of a tour
pub record Holds (town : Town) (s : Standing) : Type 0 where
  pub rows : AreMet town s.rows
  pub bounds : (i : ℕ) → i < length s.nodes → (steps : List Step) → is_tour town steps ≡ true → InBox town (node_at town s i) steps → (node_at town s i).bound ≤ℤ pos (walk_cost town steps)
  pub reach : (steps : List Step) → is_tour town steps ≡ true → InBox town (root town) steps → Reached town s steps
  pub upper : IfSome s.upper (HasTour town)

starts : (town : Town) → Holds town (start town)
starts town = record {
  rows = meets_all town;
  bounds = bounds;
  reach = λ steps tour inside. (0, omega arith, refl, inside);
  upper = tt;
}
  where
    bounds : (i : ℕ) → i < length (root town ∷ []) → (steps : List Step) → is_tour town steps ≡ true → InBox town (get_or (root town ∷ []) i (root town)) steps → (get_or (root town ∷ []) i (root town)).bound ≤ℤ pos (walk_cost town steps)
    bounds zero below steps tour inside = omega (arith, linear)
    bounds (suc i) below steps tour inside = absurd (omega arith)

-- ---- tours

cheaper : (town : Town) (cost : ℕ) (upper : Option ℕ) → HasTour town cost → IfSome upper (HasTour town) → HasTour town (option_map_or (min cost) upper cost)
cheaper town cost None new old = new
cheaper town cost (Some other) new old =
    ⊎_elim
    (λ (less : cost < other). let same : cost ≡ min cost other = omega arith in subst (HasTour town) same new)
    (λ (more : other ≤ cost). let same : other ≡ min cost other = omega arith in subst (HasTour town) same old)
    (cases_lt cost other)

tour_there : (town : Town) (s : Standing) (cost : ℕ) (steps : List Step) → is_none (broken_rule town s (Tour cost steps)) ≡ true → HasTour town cost
tour_there town s cost steps sound =
    let kept = rules_kept (all_rules town s (Tour cost steps)) sound in
    record { tour = steps; serves = and_from_both (kept 3) (kept 4); attained = eqb-true (walk_cost town steps) cost (kept 5) }
  where
    and_from_both : {a b : Bool} → a ≡ true → b ≡ true → (a && b) ≡ true
    and_from_both {a} {b} x y = and_from a b x y

-- ---- bounds

-- the node of a bound is there, and its denominator is above 0
pub bound_there : (town : Town) (s : Standing) (node den : ℕ) (mult : List (ℕ × ℕ)) → is_none (broken_rule town s (Bound node den mult)) ≡ true → (node < length s.nodes) × (0 < den)
bound_there town s node den mult sound =
    let kept = rules_kept (all_rules town s (Bound node den mult)) sound in
    let numbers = and_parts (is_count node && (is_from_one (2 ^ 40) den && true)) (are_multipliers (2 ^ 60) mult) (kept 0) in
    let range = and_parts (is_count node) (is_from_one (2 ^ 40) den && true) numbers.0 in
    (ltb-true node (length s.nodes) (and_parts (node_is_there s node) (rows_are_there s mult) (kept 2)).0, from_one (2 ^ 40) den (and_parts (is_from_one (2 ^ 40) den) true range.1).0)

module _ (town : Town) (s : Standing) (h : Holds town s) where
  abbrev at : ℕ → Node
  at i = node_at town s i

  -- a node changed in its bound
  module _ (node den : ℕ) (mult : List (ℕ × ℕ)) (there : node < length s.nodes) (positive : 0 < den) where
    abbrev value : ℤ
    value = bound_value town s.rows (at node) den mult

    abbrev bounded : List Node
    bounded = changed (with_bound value) node s.nodes

    abbrev now : ℕ → Node
    now i = get_or bounded i (root town)

    now_old : (i : ℕ) (x : ℕ → ℕ) → IsInside town (now i) x → IsInside town (at i) x
    now_old i x inside = same_box town (now i) (at i) x (changed_keeps (λ n. n.lo) (with_bound value) (λ n. refl) node i s.nodes (root town)) (changed_keeps (λ n. n.hi) (with_bound value) (λ n. refl) node i s.nodes (root town)) inside

    old_now : (i : ℕ) (x : ℕ → ℕ) → IsInside town (at i) x → IsInside town (now i) x
    old_now i x inside = same_box town (at i) (now i) x (sym (changed_keeps (λ n. n.lo) (with_bound value) (λ n. refl) node i s.nodes (root town))) (sym (changed_keeps (λ n. n.hi) (with_bound value) (λ n. refl) node i s.nodes (root town))) inside

    bounds_bound : (i : ℕ) → i < length bounded → (steps : List Step) → is_tour town steps ≡ true → InBox town (now i) steps → (now i).bound ≤ℤ pos (walk_cost town steps)
    bounds_bound i below steps tour inside =
        elim (cases_eq i node) [
          | inl same ↦ (
              let low : value ≤ℤ pos (walk_cost town steps) = bound_within town s.rows (at node) den mult steps positive (tour_closed town steps tour) (λ j. meets_at town steps s.rows j (h.rows steps tour)) (within_from_inside town (at node) steps (subst (λ j. InBox town (at j) steps) same (now_old i (count_of steps) inside))) in
              subst (λ (n : Node). n.bound ≤ℤ pos (walk_cost town steps)) (sym (ap now same ∙ changed_at (with_bound value) node s.nodes (root town) there)) low
              )
          | inr differs ↦ subst (λ (n : Node). n.bound ≤ℤ pos (walk_cost town steps)) (sym (changed_other (with_bound value) node i s.nodes (root town) differs)) (h.bounds i (omega (arith, length-changed (with_bound value) node s.nodes)) steps tour (now_old i (count_of steps) inside))
        ]

    reach_bound : (steps : List Step) → is_tour town steps ≡ true → InBox town (root town) steps → (i : ℕ) × (i < length bounded) × ((now i).is_closed ≡ false) × (InBox town (now i) steps)
    reach_bound steps tour inside =
        let r = h.reach steps tour inside in
        (r.0, omega (arith, r.1, length-changed (with_bound value) node s.nodes), changed_keeps (λ n. n.is_closed) (with_bound value) (λ n. refl) node r.0 s.nodes (root town) ∙ r.2, old_now r.0 (count_of steps) r.3)

  -- a node closed in which no tour is
  module _ (node : ℕ) (none : (steps : List Step) → is_tour town steps ≡ true → InBox town (at node) steps → ⊥) where
    abbrev fewer : List Node
    fewer = changed closed node s.nodes

    abbrev then : ℕ → Node
    then i = get_or fewer i (root town)

    bounds_closed : (i : ℕ) → i < length fewer → (steps : List Step) → is_tour town steps ≡ true → InBox town (then i) steps → (then i).bound ≤ℤ pos (walk_cost town steps)
    bounds_closed i below steps tour inside =
        subst (λ (z : ℤ). z ≤ℤ pos (walk_cost town steps)) (sym (changed_keeps (λ n. n.bound) closed (λ n. refl) node i s.nodes (root town)))
        (h.bounds i (omega (arith, length-changed closed node s.nodes)) steps tour
        (same_box town (then i) (at i) (count_of steps) (changed_keeps (λ n. n.lo) closed (λ n. refl) node i s.nodes (root town)) (changed_keeps (λ n. n.hi) closed (λ n. refl) node i s.nodes (root town)) inside))

    reach_closed : (steps : List Step) → is_tour town steps ≡ true → InBox town (root town) steps → (i : ℕ) × (i < length fewer) × ((then i).is_closed ≡ false) × (InBox town (then i) steps)
    reach_closed steps tour inside = of_old (h.reach steps tour inside)
      where
        of_old : Reached town s steps → (i : ℕ) × (i < length fewer) × ((then i).is_closed ≡ false) × (InBox town (then i) steps)
        of_old (i, below, unclosed, within) =
            let same = changed_other closed node i s.nodes (root town) (λ e. none steps tour (subst (λ j. InBox town (at j) steps) e within)) in
            (i, omega (arith, length-changed closed node s.nodes), ap (λ (n : Node). n.is_closed) same ∙ unclosed, subst (λ n. InBox town n steps) (sym same) within)

  -- a node split
  module _ (node arc k : ℕ) (by : SplitsBy town s node arc k) where
    abbrev halves : List Node
    halves = changed closed node s.nodes ++ at_most arc k (at node) ∷ at_least arc (k + 1) (at node) ∷ []

    abbrev later : ℕ → Node
    later i = get_or halves i (root town)

    halves_are : AreSplit (root town) s.nodes halves node (at_most arc k (at node)) (at_least arc (k + 1) (at node))
    halves_are = are_split (root town) s.nodes node (at_most arc k (at node)) (at_least arc (k + 1) (at node)) by.there

    which_half : (i : ℕ) → i < length halves → (i < length s.nodes) ⊎ ((i ≡ length s.nodes) ⊎ (i ≡ length s.nodes + 1))
    which_half i below =
        elim (cases_lt i (length s.nodes)) [
          | inl old ↦ inl old
          | inr new ↦ elim (cases_eq i (length s.nodes)) [ inl first ↦ inr (inl first) | inr other ↦ inr (inr (omega (arith, halves_are.count))) ]
        ]

    bounds_split : (i : ℕ) → i < length halves → (steps : List Step) → is_tour town steps ≡ true → InBox town (later i) steps → (later i).bound ≤ℤ pos (walk_cost town steps)
    bounds_split i below steps tour inside = of_which (which_half i below)
      where
        of_which : (i < length s.nodes) ⊎ ((i ≡ length s.nodes) ⊎ (i ≡ length s.nodes + 1)) → (later i).bound ≤ℤ pos (walk_cost town steps)
        of_which (inl old) = subst (λ (z : ℤ). z ≤ℤ pos (walk_cost town steps)) (sym (halves_are.bound i old)) (h.bounds i old steps tour (same_box town (later i) (at i) (count_of steps) (halves_are.lo i old) (halves_are.hi i old) inside))
        of_which (inr (inl first)) =
            subst (λ (n : Node). n.bound ≤ℤ pos (walk_cost town steps)) (sym (halves_are.first_is i first))
            (h.bounds node by.there steps tour (out_of_first town (at node) arc k (count_of steps) (let m = by.high in omega arith) (subst (λ n. InBox town n steps) (halves_are.first_is i first) inside)))
        of_which (inr (inr second)) =
            subst (λ (n : Node). n.bound ≤ℤ pos (walk_cost town steps)) (sym (halves_are.second_is i second))
            (h.bounds node by.there steps tour (out_of_second town (at node) arc (k + 1) (count_of steps) (let m = by.low in omega arith) (subst (λ n. InBox town n steps) (halves_are.second_is i second) inside)))

    abbrev InHalves : List Step → Type 0
    InHalves steps = (i : ℕ) × (i < length halves) × ((later i).is_closed ≡ false) × (InBox town (later i) steps)

    reach_split : (steps : List Step) → is_tour town steps ≡ true → InBox town (root town) steps → InHalves steps
    reach_split steps tour inside = of_old (h.reach steps tour inside)
      where
        half : InBox town (at node) steps → (k < count_of steps arc) ⊎ (count_of steps arc ≤ k) → InHalves steps
        half within (inr low) = (
          length s.nodes,
          omega (arith, halves_are.count),
          ap (λ (n : Node). n.is_closed) (halves_are.first_is (length s.nodes) refl) ∙ by.unclosed,
          subst (λ n. InBox town n steps) (sym (halves_are.first_is (length s.nodes) refl)) (into_first town (at node) arc k (count_of steps) low within),
        )
        half within (inl high) = (
          length s.nodes + 1,
          omega (arith, halves_are.count),
          ap (λ (n : Node). n.is_closed) (halves_are.second_is (length s.nodes + 1) refl) ∙ by.unclosed,
          subst (λ n. InBox town n steps) (sym (halves_are.second_is (length s.nodes + 1) refl)) (into_second town (at node) arc (k + 1) (count_of steps) (omega arith) within),
        )

        of_old : Reached town s steps → InHalves steps
        of_old (i, below, unclosed, within) =
            elim (cases_eq i node) [
              | inl same ↦ half (subst (λ j. InBox town (at j) steps) same within) (cases_lt k (count_of steps arc))
              | inr differs ↦ (
                  let same = halves_are.others i below differs in
                  (i, omega (arith, halves_are.count), ap (λ (n : Node). n.is_closed) same ∙ unclosed, subst (λ n. InBox town n steps) (sym same) within)
                  )
            ]

-- ---- a list

holds_after : (town : Town) (s : Standing) (item : Record) → is_none (broken_rule town s item) ≡ true → Holds town s → Holds town (after town s item)
holds_after town s (Tour cost steps) sound h = record { rows = rows_after town s (Tour cost steps) sound h.rows; bounds = h.bounds; reach = h.reach; upper = cheaper town cost s.upper (tour_there town s cost steps sound) h.upper }
holds_after town s (Conn r1 r2 set) sound h = record { rows = rows_after town s (Conn r1 r2 set) sound h.rows; bounds = h.bounds; reach = h.reach; upper = h.upper }
holds_after town s (Odd set) sound h = record { rows = rows_after town s (Odd set) sound h.rows; bounds = h.bounds; reach = h.reach; upper = h.upper }
holds_after town s (Round divisor mult) sound h = record { rows = rows_after town s (Round divisor mult) sound h.rows; bounds = h.bounds; reach = h.reach; upper = h.upper }
holds_after town s (Kc k of) sound h = record { rows = rows_after town s (Kc k of) sound h.rows; bounds = h.bounds; reach = h.reach; upper = h.upper }
holds_after town s (Bound node den mult) sound h =
    let there = bound_there town s node den mult sound in
    record { rows = rows_after town s (Bound node den mult) sound h.rows; bounds = bounds_bound town s h node den mult there.0 there.1; reach = reach_bound town s h node den mult there.0 there.1; upper = h.upper }
holds_after town s (Empty node mult) sound h =
    let none : (steps : List Step) → is_tour town steps ≡ true → InBox town (node_at town s node) steps → ⊥ = λ steps tour inside. emptied town s.rows (node_at town s node) mult steps h.rows (let test : int_lt (pos 0) (empty_value town s.rows (node_at town s node) mult) ≡ true = rules_kept (all_rules town s (Empty node mult)) sound 4 in omega (arith, tests)) tour inside in
    record { rows = rows_after town s (Empty node mult) sound h.rows; bounds = bounds_closed town s h node none; reach = reach_closed town s h node none; upper = h.upper }
holds_after town s (Apart node r1 r2 set) sound h =
    let kept = rules_kept (all_rules town s (Apart node r1 r2 set)) sound in
    let none : (steps : List Step) → is_tour town steps ≡ true → InBox town (node_at town s node) steps → ⊥ = λ steps tour inside. shut_in town (node_at town s node) r1 r2 set steps (kept 5) tour inside (leaves_parted town r1 r2 set steps (kept 4) tour) in
    record { rows = rows_after town s (Apart node r1 r2 set) sound h.rows; bounds = bounds_closed town s h node none; reach = reach_closed town s h node none; upper = h.upper }
holds_after town s (Point node den numbers) sound h = record { rows = rows_after town s (Point node den numbers) sound h.rows; bounds = h.bounds; reach = h.reach; upper = h.upper }
holds_after town s (Blind node) sound h = record { rows = rows_after town s (Blind node) sound h.rows; bounds = h.bounds; reach = h.reach; upper = h.upper }
holds_after town s (Split node arc k) sound h =
    let by = splits_by town s node arc k sound in
    record { rows = rows_after town s (Split node arc k) sound h.rows; bounds = bounds_split town s h node arc k by; reach = reach_split town s h node arc k by; upper = h.upper }
holds_after town s (Labels labels streets) sound h = record { rows = rows_after town s (Labels labels streets) sound h.rows; bounds = h.bounds; reach = h.reach; upper = h.upper }

-- what a valid list stands for
pub valid_holds : (town : Town) (records : List Record) → is_valid town records ≡ true → Holds town (standing town records)
valid_holds town records valid = goes_on_keeps town (Holds town) (holds_after town) (start town) records valid (starts town)

-- ---- the least bound

-- the least of some bounds, at most that of a node among them
least_of_more : (x : ℤ) (o : Option ℤ) → (b : ℤ) × (Some (option_map_or (int_min x) o x) ≡ Some b) × (b ≤ℤ x)
least_of_more x None = (x, refl, omega (arith, linear))
least_of_more x (Some y) = by (int_lt y x) refl
  where
    by : (t : Bool) → int_lt y x ≡ t → (b : ℤ) × (Some (cond t y x) ≡ Some b) × (b ≤ℤ x)
    by true e = (y, refl, omega (arith, tests))
    by false e = (x, refl, omega (arith, linear))

least_of_others : (x b : ℤ) (o : Option ℤ) → o ≡ Some b → (c : ℤ) × (Some (option_map_or (int_min x) o x) ≡ Some c) × (c ≤ℤ b)
least_of_others x b o is = subst (λ (o : Option ℤ). (c : ℤ) × (Some (option_map_or (int_min x) o x) ≡ Some c) × (c ≤ℤ b)) (sym is) (by (int_lt b x) refl)
  where
    by : (t : Bool) → int_lt b x ≡ t → (c : ℤ) × (Some (cond t b x) ≡ Some c) × (c ≤ℤ b)
    by true e = (b, refl, omega (arith, linear))
    by false e = (x, refl, omega (arith, tests))

abbrev Reaches : List Node → ℤ → Type 0
Reaches nodes x = (b : ℤ) × (least_bound nodes ≡ Some b) × (b ≤ℤ x)

least_reaches : (test : Node → Bool) (nodes : List Node) (i : ℕ) (d : Node) → i < length nodes → test (get_or nodes i d) ≡ true → Reaches (filter test nodes) (get_or nodes i d).bound
least_reaches test [] i d below passes = absurd (omega arith)
least_reaches test (node ∷ nodes) zero d below passes =
    subst (λ t. Reaches (cond t (node ∷ filter test nodes) (filter test nodes)) node.bound) (sym passes) (least_of_more node.bound (least_bound (filter test nodes)))
least_reaches test (node ∷ nodes) (suc i) d below passes = by (test node) (least_reaches test nodes i d (omega arith) passes)
  where
    by : (t : Bool) → Reaches (filter test nodes) (get_or nodes i d).bound → Reaches (cond t (node ∷ filter test nodes) (filter test nodes)) (get_or nodes i d).bound
    by true (b, is, low) = let c = least_of_others node.bound b (least_bound (filter test nodes)) is in (c.0, c.1, omega (arith, linear, c.2))
    by false rest = rest

-- the least bound is that of an open node, so it is below upper
pub same_some : {X : Type 0} (x y : X) → Some x ≡ Some y → x ≡ y
same_some x y h = cc

pub none_isnt : {X : Type 0} (x : X) → None ≡ Some x → ⊥
none_isnt x h = cc

least_is_below : (upper : Option ℕ) (nodes : List Node) (b : ℤ) → least_bound (filter (is_open upper) nodes) ≡ Some b → is_below b upper ≡ true
least_is_below upper [] b is = absurd (none_isnt b is)
least_is_below upper (node ∷ nodes) b is = by (is_open upper node) refl (λ c. least_is_below upper nodes c) is
  where
    of_min : (t : Bool) (x y : ℤ) → is_below x upper ≡ true → is_below y upper ≡ true → is_below (cond t y x) upper ≡ true
    of_min true x y first second = second
    of_min false x y first second = first

    some : (o : Option ℤ) → ((c : ℤ) → o ≡ Some c → is_below c upper ≡ true) → is_below node.bound upper ≡ true → is_below (option_map_or (int_min node.bound) o node.bound) upper ≡ true
    some None rest first = first
    some (Some y) rest first = of_min (int_lt y node.bound) node.bound y first (rest y refl)

    by : (t : Bool) → is_open upper node ≡ t → ((c : ℤ) → least_bound (filter (is_open upper) nodes) ≡ Some c → is_below c upper ≡ true) → least_bound (cond t (node ∷ filter (is_open upper) nodes) (filter (is_open upper) nodes)) ≡ Some b → is_below b upper ≡ true
    by true e rest h =
        subst (λ (z : ℤ). is_below z upper ≡ true) (same_some _ b h)
        (some (least_bound (filter (is_open upper) nodes)) rest (and_parts (not node.is_closed) (is_below node.bound upper) e).1)
    by false e rest h = rest b h

-- ---- lower

-- a bound that isn't below upper is at least upper
reaches_upper : (bound : ℤ) (upper : Option ℕ) → is_below bound upper ≡ false → (cost : ℕ) × (upper ≡ Some cost) × (pos cost ≤ℤ bound)
reaches_upper bound None h = absurd (true≢false h)
reaches_upper bound (Some cost) h = (cost, refl, omega (arith, tests))

below_some : (bound : ℤ) (upper : Option ℕ) (cost : ℕ) → upper ≡ Some cost → is_below bound upper ≡ true → bound ≤ℤ pos cost
below_some bound upper cost is below = let test = subst (λ (u : Option ℕ). is_below bound u ≡ true) is below in omega (arith, tests)

-- lower is at most the bound of each unclosed node
abbrev IsAtMost : Option ℤ → ℤ → Type 0
IsAtMost low x = (b : ℤ) × (low ≡ Some b) × (b ≤ℤ x)

lower_at_most : (town : Town) (s : Standing) (i : ℕ) → i < length s.nodes → (node_at town s i).is_closed ≡ false → IsAtMost (lower s) (node_at town s i).bound
lower_at_most town s i below unclosed = by (is_open s.upper (node_at town s i)) refl
  where
    node : Node
    node = node_at town s i

    first : (b : ℤ) → least_bound (open_nodes s) ≡ Some b → lower s ≡ Some b
    first b is = ap (λ (o : Option ℤ). option_or o (option_map pos s.upper)) is

    -- the node isn't open
    above : (o : Option ℤ) → least_bound (open_nodes s) ≡ o → (cost : ℕ) × (s.upper ≡ Some cost) × (pos cost ≤ℤ (node_at town s i).bound) → IsAtMost (lower s) (node_at town s i).bound
    above None e (cost, is, low) = (pos cost, ap (λ (o : Option ℤ). option_or o (option_map pos s.upper)) e ∙ ap (λ (u : Option ℕ). option_map pos u) is, low)
    above (Some b) e (cost, is, low) = (b, first b e, (let under = below_some b s.upper cost is (least_is_below s.upper s.nodes b e) in omega (arith, linear)))

    not_below : (t : Bool) → t ≡ false → (not t && is_below (node_at town s i).bound s.upper) ≡ false → is_below (node_at town s i).bound s.upper ≡ false
    not_below true e h = absurd (true≢false e)
    not_below false e h = h

    by : (t : Bool) → is_open s.upper (node_at town s i) ≡ t → IsAtMost (lower s) (node_at town s i).bound
    by true e = let r = least_reaches (is_open s.upper) s.nodes i (root town) below e in (r.0, first r.0 r.1, r.2)
    by false e = above (least_bound (open_nodes s)) refl (reaches_upper (node_at town s i).bound s.upper (not_below (node_at town s i).is_closed unclosed e))

in_root : (town : Town) (steps : List Step) → ((arc : ℕ) → count_of steps arc ≤ length (demands town)) → InBox town (root town) steps
in_root town steps few = record { at_least = λ arc legal. omega arith; at_most = λ arc legal. few arc }

-- over a valid list lower stands wherever a tour is there, and every tour costs at least lower
pub lower_bounds : (town : Town) (records : List Record) (steps : List Step) → is_valid town records ≡ true → is_tour town steps ≡ true → IsAtMost (lower (standing town records)) (pos (walk_cost town steps))
lower_bounds town records steps valid tour = whole (each_arc_at_most town steps tour)
  where
    h : Holds town (standing town records)
    h = valid_holds town records valid

    whole : (other : List Step) × (is_tour town other ≡ true) × (walk_cost town other ≤ walk_cost town steps) × ((arc : ℕ) → count_of other arc ≤ length (demands town)) → IsAtMost (lower (standing town records)) (pos (walk_cost town steps))
    whole (other, other_tour, cost, few) = at_node (h.reach other other_tour (in_root town other few))
      where
        at_node : Reached town (standing town records) other → IsAtMost (lower (standing town records)) (pos (walk_cost town steps))
        at_node (i, below, unclosed, within) =
            let low = lower_at_most town (standing town records) i below unclosed in
            let bound = h.bounds i below other other_tour within in
            (low.0, low.1, omega (arith, linear, low.2))

pub lower_bounds_every_tour : (town : Town) (records : List Record) (low : ℤ) (steps : List Step) → is_valid town records ≡ true → lower (standing town records) ≡ Some low → is_tour town steps ≡ true → low ≤ℤ pos (walk_cost town steps)
lower_bounds_every_tour town records low steps valid is tour =
    let b = lower_bounds town records steps valid tour in
    subst (λ (z : ℤ). z ≤ℤ pos (walk_cost town steps)) (same_some b.0 low (sym b.1 ∙ is)) b.2

pub no_tour_without_lower : (town : Town) (records : List Record) → is_valid town records ≡ true → lower (standing town records) ≡ None → HasNoTour town
no_tour_without_lower town records valid none = λ steps tour. let b = lower_bounds town records steps valid tour in none_isnt b.0 (sym none ∙ b.1)
