-- At the end of a search nothing waits: the table then holds shortest walks.
use Rattle.std.proofs.Common.{◌≡◌, ℕ, zero, suc, ◌+◌, ◌<◌, true, false, List, [], ◌∷◌, ◌++◌, length, Option, Some, None, refl, sym, ap, ◌∙◌, subst, inl, inr, arith}
use Rattle.std.specs.Option.{option_map}
use Rattle.std.proofs.lemmas.Bool.{or_cases, false≢true, eqb-true, eq-eqb}
use Rattle.std.proofs.lemmas.Option.{none-some, same_Some}
use Rattle.wrp_town.specs.declared.street.Step.{Step}
use Rattle.wrp_town.specs.declared.town.Town.{Town}
use Rattle.wrp_town.specs.Arcs.{tail_of, head_of, is_legal, cost_or_zero, arc_of, step_along}
use Rattle.wrp_town.proofs.TownLaws.{arc_of-step_along}
use Rattle.wrp_town.specs.Walks.{leads, walk_cost}
use Rattle.wrp_town.proofs.WalkLaws.{LeadsBy-from_leads, leads-push, walk_cost-cons, walk_cost-append}
use Rattle.wrp_paths.specs.declared.arrival.Arrival.{Arrival}
use Rattle.wrp_paths.specs.Arrivals.{entry_at, steps_to, ways_of}
use Rattle.wrp_paths.specs.Distances.{IsDistance, AreShortest}
use Rattle.wrp_paths.specs.Search.{begins, goes_on, IsSearch, is_settled, is_known}
use Rattle.wrp_paths.proofs.Tables.{settled_walk, is_settled-more, length-ways_of, way_to-ways_of, steps_to-more}

settled_if_known : (table : List (Option Arrival)) (j cost : ℕ) → is_known table [] j cost ≡ true → is_settled table j cost ≡ true
settled_if_known table j cost known = elim (or_cases (is_settled table j cost) false known) [ inl settled ↦ settled | inr never ↦ absurd (false≢true never) ]

-- a walk that is read back, and its cost
record IsWay (town : Town) (from j cost : ℕ) (steps : List Step) : Type 0 where
  leads_there : leads town from steps j ≡ true
  costs : walk_cost town steps ≡ cost

IsWay-push : (town : Town) (from k cost arc : ℕ) (steps : List Step) → IsWay town from k cost steps → is_legal town arc ≡ true → tail_of town arc ≡ k → IsWay town from (head_of town arc) (cost + cost_or_zero town arc) (steps ++ step_along arc ∷ [])
IsWay-push town from k cost arc steps way legal leaves =
    let same = arc_of-step_along arc in
    let step = step_along arc in
    record {
      leads_there = subst (λ a. leads town from (steps ++ step ∷ []) (head_of town a) ≡ true) same
          (leads-push town from steps step k way.leads_there (ap (is_legal town) same ∙ legal) (ap (tail_of town) same ∙ leaves));
      costs = omega (arith, walk_cost-append town steps (step ∷ []), walk_cost-cons town step [], ap (cost_or_zero town) same, way.costs);
    }

module _ (town : Town) (from : ℕ) (table : List (Option Arrival)) (search : IsSearch town from table []) where
  -- each entry's walk leads to its junction, at its cost
  way_back : (hops j : ℕ) (walk : Arrival) → entry_at table j ≡ Some walk → walk.hops ≡ hops → IsWay town from j walk.cost (steps_to table hops j)
  way_back zero j walk is none =
      elim ((search.settled j walk is).1) [
        | begins at cost hops ↦ record { leads_there = eq-eqb from j (sym at ∙ (search.settled j walk is).0); costs = sym cost }
        | goes_on earlier there legal leaves same ↦ absurd (omega (arith, none, ap (λ w. w.hops) same))
      ]
  way_back (suc hops) j walk is more =
      elim ((search.settled j walk is).1) [
        | begins at cost never ↦ absurd (omega (arith, more, never))
        | goes_on earlier there legal leaves same ↦
            let before = way_back hops walk.before earlier there (omega (arith, more, ap (λ w. w.hops) same)) in
            let on = IsWay-push town from walk.before earlier.cost walk.arc (steps_to table hops walk.before) before legal leaves in
            let end : head_of town walk.arc ≡ j = ap (λ w. w.junction) (sym same) ∙ (search.settled j walk is).0 in
            rw (steps_to-more table hops j walk is) (record { leads_there = subst (λ k. leads town from (steps_to table hops walk.before ++ step_along walk.arc ∷ []) k ≡ true) end on.leads_there; costs = on.costs ∙ ap (λ w. w.cost) (sym same) })
      ]

  -- where steps lead from a settled junction, the last one is settled too, at no more than their cost
  settled_on : (i j cost : ℕ) (steps : List Step) → is_settled table i cost ≡ true → leads town i steps j ≡ true → is_settled table j (cost + walk_cost town steps) ≡ true
  settled_on i j cost [] settled lead =
      is_settled-more table j cost (cost + walk_cost town []) (omega arith) (subst (λ k. is_settled table k cost ≡ true) (eqb-true i j lead) settled)
  settled_on i j cost (step ∷ steps) settled lead =
      let by = LeadsBy-from_leads town i step steps j lead in
      let arc = arc_of step in
      let w = settled_walk table i cost settled in
      let there : entry_at table (tail_of town arc) ≡ Some w.0 = ap (entry_at table) by.begins ∙ w.1 in
      let next = settled_if_known table (head_of town arc) _ (search.followed arc w.0 by.legal there) in
      is_settled-more table j _ _ (omega (arith, walk_cost-cons town step steps, w.2)) (settled_on (head_of town arc) j (w.0.cost + cost_or_zero town arc) steps next by.goes_on)

  settled_by : (j : ℕ) (steps : List Step) → leads town from steps j ≡ true → is_settled table j (walk_cost town steps) ≡ true
  settled_by j steps lead = is_settled-more table j _ _ (omega arith) (settled_on from j 0 steps (settled_if_known table from 0 search.begun) lead)

  distance_at : (j : ℕ) (entry : Option Arrival) → entry_at table j ≡ entry → IsDistance town from j (option_map (λ walk. (walk.cost, steps_to table walk.hops j)) entry)
  distance_at j None is = λ steps lead. let w = settled_walk table j _ (settled_by j steps lead) in none-some w.0 (sym is ∙ w.1)
  distance_at j (Some walk) is =
      let way = way_back walk.hops j walk is refl in (
        record {
          leads_there = way.leads_there;
          least = λ others lead.
              let w = settled_walk table j _ (settled_by j others lead) in
              omega (arith, w.2, way.costs, ap (λ x. x.cost) (same_Some walk w.0 (sym is ∙ w.1)));
        },
        way.costs,
      )

  pub shortest_at_end : AreShortest town from (ways_of table)
  shortest_at_end = record {
    each = length-ways_of table ∙ search.each;
    shortest = λ j below.
        let inside : j < length table = omega (arith, search.each) in
        subst (IsDistance town from j) (sym (way_to-ways_of table j inside)) (distance_at j (entry_at table j) refl);
  }
