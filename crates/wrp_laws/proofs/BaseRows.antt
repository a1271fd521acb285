-- The counts of a tour meet each balance row, with equality, and each service row.
use Rattle.std.proofs.Common.{◌≡◌, ℕ, ◌<◌, ◌≤◌, Bool, true, false, ◌==◌, ◌||◌, ℤ, pos, ◌+ℤ◌, ◌-ℤ◌, ◌*ℤ◌, ◌≤ℤ◌, List, [], ◌∷◌, map, length, get_or, ap, refl, sym, ◌∙◌, subst, arith, ⊎_elim}
use Rattle.std.specs.List.{All}
use Rattle.std.proofs.lemmas.Bool.{eqb-true, false≢true, cases_lt}
use Rattle.std.proofs.lemmas.List.{get_or_past}
use Rattle.std.proofs.lemmas.List.Elements.{All-append, All-map}
use Rattle.std.proofs.lemmas.List.Sums.{AllPass-from_list_all}
use Rattle.std.proofs.lemmas.Int.{ints}
use Rattle.wrp_sums.specs.Sums.{sum_over}
use Rattle.wrp_sums.proofs.Integers.{linear, at_most_refl}
use Rattle.wrp_sums.proofs.SumsOver.{sum_over-all_zero, sum_over-pos, sum_over-at_least_zero}
use Rattle.wrp_town.specs.declared.street.Step.{Step}
use Rattle.wrp_town.specs.declared.town.Town.{Town}
use Rattle.wrp_town.specs.Arcs.{tail_of, head_of, cost_or_zero, legal_arcs, junctions, demands, has_arc, arc_of}
use Rattle.wrp_town.specs.Walks.{leads, is_closed_walk, serves, is_tour, walk_cost, count_of}
use Rattle.wrp_town.proofs.WalkLaws.{LeadsBy-from_leads, are_legal-from_closed, tour_closed, tour_serves}
use Rattle.wrp_rules.specs.Rows.{Row, one_if, balance_row, service_row, base_rows, row_at}
use Rattle.wrp_laws.specs.Meets.{sum_of_uses, MeetsRow}
use Rattle.wrp_laws.proofs.Counts.{sum_by_counts}

-- ---- balance

-- leaving minus entering at v, over the steps of a walk from i to j
pub balance_along : (town : Town) (v i : ℕ) (steps : List Step) (j : ℕ) → leads town i steps j ≡ true → sum_over (λ step. one_if (tail_of town (arc_of step) == v) -ℤ one_if (head_of town (arc_of step) == v)) steps ≡ one_if (i == v) -ℤ one_if (j == v)
balance_along town v i [] j walk =
    let same : i ≡ j = eqb-true i j walk in
    rw same (omega (arith, linear))
balance_along town v i (step ∷ steps) j walk =
    let by = LeadsBy-from_leads town i step steps j walk in
    let rest = balance_along town v (head_of town (arc_of step)) steps j by.goes_on in
    omega (arith, linear, rest, ap (λ (k : ℕ). one_if (k == v)) by.begins)

pub balance_closed : (town : Town) (v : ℕ) (steps : List Step) → is_closed_walk town steps ≡ true → sum_over (λ step. one_if (tail_of town (arc_of step) == v) -ℤ one_if (head_of town (arc_of step) == v)) steps ≡ pos 0
balance_closed town v [] walk = refl
balance_closed town v (step ∷ steps) walk =
    balance_along town v (tail_of town (arc_of step)) (step ∷ steps) (tail_of town (arc_of step)) walk ∙ omega (arith, linear)

-- a closed walk leaves each junction as often as it enters it
pub balanced : (town : Town) (v : ℕ) (steps : List Step) → is_closed_walk town steps ≡ true → sum_of_uses town steps (balance_row town v).coef ≡ pos 0
balanced town v steps walk =
    sum_by_counts town (balance_row town v).coef steps (are_legal-from_closed town steps walk) ∙ balance_closed town v steps walk

-- ---- service

-- some step is on an arc of the demand
pub served_once : (demand : List ℕ) (steps : List Step) → serves steps demand ≡ true → pos 1 ≤ℤ sum_over (λ step. one_if (has_arc demand (arc_of step))) steps
served_once demand [] served = absurd (false≢true served)
served_once demand (step ∷ steps) served = by (has_arc demand (arc_of step)) served (served_once demand steps)
  where
    others : pos 0 ≤ℤ sum_over (λ s. one_if (has_arc demand (arc_of s))) steps
    others = sum_over-at_least_zero (λ s. one_if (has_arc demand (arc_of s))) steps (λ s inside. not_negative (has_arc demand (arc_of s)))
      where
        not_negative : (t : Bool) → pos 0 ≤ℤ one_if t
        not_negative true = omega (arith, linear)
        not_negative false = omega (arith, linear)

    by : (t : Bool) → (t || serves steps demand) ≡ true → (serves steps demand ≡ true → pos 1 ≤ℤ sum_over (λ s. one_if (has_arc demand (arc_of s))) steps) → pos 1 ≤ℤ (one_if t +ℤ sum_over (λ s. one_if (has_arc demand (arc_of s))) steps)
    by true here rest = omega (arith, linear, others)
    by false there rest = omega (arith, linear, rest there)

pub meets_service : (town : Town) (demand : List ℕ) (steps : List Step) → is_closed_walk town steps ≡ true → serves steps demand ≡ true → MeetsRow town steps (service_row demand)
meets_service town demand steps walk served =
    subst (λ (z : ℤ). pos 1 ≤ℤ z) (sym (sum_by_counts town (service_row demand).coef steps (are_legal-from_closed town steps walk))) (served_once demand steps served)

-- ---- all rows

meets_balance : (town : Town) (v : ℕ) (steps : List Step) → is_closed_walk town steps ≡ true → MeetsRow town steps (balance_row town v)
meets_balance town v steps walk = subst (λ (z : ℤ). pos 0 ≤ℤ z) (sym (balanced town v steps walk)) (at_most_refl (pos 0))

pub meets_all : (town : Town) (steps : List Step) → is_tour town steps ≡ true → All (MeetsRow town steps) (base_rows town)
meets_all town steps tour =
    let closed = tour_closed town steps tour in
    let services = AllPass-from_list_all (serves steps) (demands town) (tour_serves town steps tour) in
    All-append (MeetsRow town steps) (map (balance_row town) (junctions town)) (map service_row (demands town))
    (All-map (MeetsRow town steps) (balance_row town) (junctions town) (λ k d inside. meets_balance town (get_or (junctions town) k d) steps closed))
    (All-map (MeetsRow town steps) service_row (demands town) (λ k d inside. meets_service town (get_or (demands town) k d) steps closed (services k d inside)))

-- rows that the steps meet, by number: past the last stands a row that asks for nothing
pub meets_at : (town : Town) (steps : List Step) (rows : List Row) (i : ℕ) → All (MeetsRow town steps) rows → MeetsRow town steps (row_at rows i)
meets_at town steps rows i all =
    ⊎_elim
    (λ (inside : i < length rows). all i _ inside)
    (λ (past : length rows ≤ i). subst (MeetsRow town steps) (sym (get_or_past rows i _ past)) nothing)
    (cases_lt i (length rows))
  where
    nothing : MeetsRow town steps (record { coef = λ arc. pos 0; right_side = pos 0 })
    nothing = subst (λ (z : ℤ). pos 0 ≤ℤ z) (sym (sum_over-all_zero (λ arc. pos 0 *ℤ pos (count_of steps arc)) (legal_arcs town) (λ arc inside. omega (arith, ints)))) (at_most_refl (pos 0))

pub meets_base_row : (town : Town) (steps : List Step) (i : ℕ) → is_tour town steps ≡ true → MeetsRow town steps (row_at (base_rows town) i)
meets_base_row town steps i tour = meets_at town steps (base_rows town) i (meets_all town steps tour)

-- ---- cost

-- a walk costs what its arcs cost, each as often as it is used
pub cost_of_uses : (town : Town) (steps : List Step) → is_closed_walk town steps ≡ true → sum_of_uses town steps (λ arc. pos (cost_or_zero town arc)) ≡ pos (walk_cost town steps)
cost_of_uses town steps walk =
    sum_by_counts town (λ arc. pos (cost_or_zero town arc)) steps (are_legal-from_closed town steps walk)
    ∙ sum_over-pos (λ step. cost_or_zero town (arc_of step)) steps
