-- What is left of a tour of the turn town is a turning tour of the same cost.
use Rattle.std.proofs.Common.{◌≡◌, ℕ, ◌+◌, ◌*◌, ◌/◌, ◌<◌, Bool, true, false, ◌&&◌, not, List, [], ◌∷◌, ◌++◌, map, length, Some, is_some, Contains, ap, refl, sym, ◌∙◌, subst, inl, inr, ◌⊎◌, arith, eq-eqb}
use Rattle.std.specs.Prelude.{slice_get, nat_lt}
use Rattle.std.specs.List.{list_any, filter, slice_index_or}
use Rattle.std.proofs.lemmas.Bool.{and_from, lt-ltb, false≢true}
use Rattle.std.proofs.lemmas.List.{append-nil, map-append}
use Rattle.std.proofs.lemmas.List.Elements.{filter-append}
use Rattle.std.proofs.lemmas.Option.{slice_get_within, get_or_from_slice_get}
use Rattle.wrp_town.specs.declared.street.Step.{Step}
use Rattle.wrp_town.specs.declared.town.Town.{Town}
use Rattle.wrp_town.specs.Streets.{demands_from}
use Rattle.wrp_town.specs.Arcs.{is_legal, tail_of, head_of, cost_of, demands, has_arc, arc_of, step_along}
use Rattle.wrp_town.specs.Walks.{leads, is_closed_walk, serves, is_tour, walk_cost}
use Rattle.wrp_town.proofs.TownLaws.{arc_of-half, arc_of-step_along}
use Rattle.wrp_town.proofs.WalkLaws.{LeadsBy, LeadsBy-from_leads, leads-from_LeadsBy, leads-join, closed-from_leads, closed-turned, tour_closed, tour_serves, tour_from, tour_legal}
use Rattle.wrp_town.proofs.Members.{any_from_member, member_from_any, member_passes, all_from_members}
use Rattle.wrp_town.proofs.ServiceLaws.{member_from_has_arc}
use Rattle.wrp_turn.specs.Turns.{turns_kept, keeps_bans, is_turning_tour}
use Rattle.wrp_turn.specs.TurnTowns.{is_first_of, arcs_of, place_of, is_demanded, arc_street, turns_of, turn_street, IsTurnTown, drop_turns}
use Rattle.wrp_town_laws.proofs.Lists.{inside_filter, inside_map}
use Rattle.wrp_town_laws.proofs.Demands.{demands_from-append, either_arcs, either_half}
use Rattle.wrp_turn.proofs.Places.{turn_parts, legal_own, unservable_own, at_place, same_own}
use Rattle.wrp_turn.proofs.Runs.{Runs, runs_lead, runs_kept, runs_last}
use Rattle.wrp_turn.proofs.BigSteps.{IsArcStep, IsTurnStep, arc_step, arc_or_turn, dropped_arc, dropped_cost, alternates}
use Rattle.wrp_turn.proofs.OwnDemands.{has_arc-from_member, demand_arc_below, demand_at, demand_first, arc_demand, no_turn_demands, demanded_from}

record Closes (town : Town) (bans : List (ℕ × ℕ)) (steps : List Step) : Type 0 where
  closed : is_closed_walk town steps ≡ true
  kept : keeps_bans bans steps ≡ true

closes_odd : (town : Town) (bans : List (ℕ × ℕ)) (a : ℕ) (steps : List Step) → Runs town bans a steps a → Closes town bans steps
closes_odd town bans a [] runs = record { closed = refl; kept = refl }
closes_odd town bans a (step ∷ steps) runs = record {
  closed = closed-from_leads town (head_of town a) (step ∷ steps) (runs_lead town bans a (step ∷ steps) a runs);
  kept = runs_kept town bans (arc_of step) steps a (arc_of step) runs.1 (turn_parts town bans a (arc_of step) runs.0).free;
}

closes_even : (town : Town) (bans : List (ℕ × ℕ)) (a : ℕ) (steps : List Step) → Runs town bans a (steps ++ step_along a ∷ []) a → Closes town bans (step_along a ∷ steps)
closes_even town bans a steps runs =
    let r = runs_last town bans a steps (step_along a) a runs in
    record {
      closed = closed-turned town steps (step_along a ∷ []) (closed-from_leads town (head_of town a) (steps ++ step_along a ∷ []) (runs_lead town bans a (steps ++ step_along a ∷ []) a runs));
      kept = subst (λ x. turns_kept bans x steps (arc_of (step_along a)) ≡ true) (sym (arc_of-step_along a))
          (runs_kept town bans a steps r.0 (arc_of (step_along a)) r.1 (turn_parts town bans r.0 (arc_of (step_along a)) r.2).free);
    }

drop_turns-append : (own : List ℕ) (xs ys : List Step) → drop_turns own (xs ++ ys) ≡ drop_turns own xs ++ drop_turns own ys
drop_turns-append own xs ys =
    ap (map (λ s. step_along (slice_index_or own s.street 0))) (filter-append (λ s. nat_lt s.street (length own)) xs ys)
    ∙ map-append (λ s. step_along (slice_index_or own s.street 0)) (filter (λ s. nat_lt s.street (length own)) xs) (filter (λ s. nat_lt s.street (length own)) ys)

module _ (town : Town) (bans : List (ℕ × ℕ)) (big : Town) (is : IsTurnTown town bans big) where
  pub all_demands : demands big ≡ demands_from 0 (map (arc_street town) (arcs_of town))
  all_demands =
      ap (demands_from 0) is.streets ∙ demands_from-append 0 (map (arc_street town) (arcs_of town)) (map (turn_street town) (turns_of town bans))
      ∙ ap (λ ds. demands_from 0 (map (arc_street town) (arcs_of town)) ++ ds) (no_turn_demands town (0 + length (map (arc_street town) (arcs_of town))) (turns_of town bans))
      ∙ append-nil (demands_from 0 (map (arc_street town) (arcs_of town)))

  own_used : (steps : List Step) (b : ℕ) → Contains (arcs_of town) b → is_demanded town b ≡ true → is_tour big steps ≡ true → (is_legal town b ≡ true) × (Contains (drop_turns (arcs_of town) steps) (step_along b))
  own_used steps b inside demanded tour =
      let k = place_of town b in
      let place = at_place town b inside in
      let demand = either_arcs k in
      let inside_big : Contains (demands big) demand = subst (λ ds. Contains ds demand) (sym all_demands) (arc_demand town 0 (arcs_of town) k k b (omega arith) place demanded) in
      let m = member_from_any (λ step. has_arc demand (arc_of step)) steps (member_passes (serves steps) (demands big) demand (tour_serves big steps tour) inside_big) in
      let half : arc_of m.0 / 2 ≡ k = either_half k (arc_of m.0) (member_from_has_arc demand (arc_of m.0) m.2) in
      let legal : is_legal big (arc_of m.0) ≡ true = member_passes (λ step. is_legal big (arc_of step)) steps m.0 (tour_legal big steps tour) m.1 in
      used_by m.0 steps b k place half legal m.1
    where
      used_by : (step : Step) (steps : List Step) (b k : ℕ) → slice_get (arcs_of town) k ≡ Some b → arc_of step / 2 ≡ k → is_legal big (arc_of step) ≡ true → Contains steps step
          → (is_legal town b ≡ true) × (Contains (drop_turns (arcs_of town) steps) (step_along b))
      used_by step steps b k place half legal inside =
          let street : step.street ≡ k = sym (arc_of-half step) ∙ half in
          let a = arc_step town bans big is (arc_of step) b (ap (slice_get (arcs_of town)) half ∙ place) legal in
          let own : a.own ≡ b = same_own town (arc_of step / 2) k a.own b half a.place place in
          let below : step.street < length (arcs_of town) = omega (arith, slice_get_within (arcs_of town) k b place) in (
            sym (ap is_some (a.cost ∙ ap (cost_of town) own)) ∙ legal,
            subst (λ n. Contains (drop_turns (arcs_of town) steps) (step_along n)) (get_or_from_slice_get (arcs_of town) step.street b 0 (ap (slice_get (arcs_of town)) street ∙ place))
                (inside_map (λ s. step_along (slice_index_or (arcs_of town) s.street 0)) (filter (λ s. nat_lt s.street (length (arcs_of town))) steps) step
                (inside_filter (λ s. nat_lt s.street (length (arcs_of town))) steps step inside (lt-ltb step.street (length (arcs_of town)) below))),
          )

  dropped_serves : (steps : List Step) (demand : List ℕ) → is_tour big steps ≡ true → Contains (demands town) demand → serves (drop_turns (arcs_of town) steps) demand ≡ true
  dropped_serves steps demand tour inside = by (list_any (is_legal town) demand) refl
    where
      by : (w : Bool) → list_any (is_legal town) demand ≡ w → serves (drop_turns (arcs_of town) steps) demand ≡ true
      by true some =
          let m = member_from_any (is_legal town) demand some in
          let u = own_used steps m.0 (legal_own town m.0 m.2) (demanded_from town demand m.0 inside m.1) tour in
          any_from_member (λ step. has_arc demand (arc_of step)) (drop_turns (arcs_of town) steps) (step_along m.0) u.1 (has_arc-from_member demand (arc_of (step_along m.0)) (subst (λ a. Contains demand a) (sym (arc_of-step_along m.0)) m.1))
      by false none =
          let d = demand_at 0 town.streets demand inside in
          let f = demand_first (0 + d.k) d.street.need demand d.inside in
          let un = any_from_member (λ d. is_first_of f.0 d && not (list_any (is_legal town) d)) (demands town) demand inside (and_from (is_first_of f.0 demand) (not (list_any (is_legal town) demand)) f.1 (ap not none)) in
          let u = own_used steps f.0 (unservable_own town f.0 (demand_arc_below town demand f.0 inside f.2) un) (demanded_from town demand f.0 inside f.2) tour in
          absurd (false≢true (sym none ∙ any_from_member (is_legal town) demand f.0 f.2 u.0))

  closes : (steps : List Step) → is_closed_walk big steps ≡ true → Closes town bans (drop_turns (arcs_of town) steps)
  closes [] closed = record { closed = refl; kept = refl }
  closes (step ∷ rest) closed = by (arc_or_turn town bans big is (arc_of step) lead.legal)
    where
      lead : LeadsBy big (tail_of big (arc_of step)) step rest (tail_of big (arc_of step))
      lead = LeadsBy-from_leads big (tail_of big (arc_of step)) step rest (tail_of big (arc_of step)) closed

      by : (IsArcStep town big (arc_of step)) ⊎ (IsTurnStep town big bans (arc_of step)) → Closes town bans (drop_turns (arcs_of town) (step ∷ rest))
      by (inl a) =
          let k = arc_of step / 2 in
          let last : leads big (2 * k) (step ∷ []) (2 * k + 1) ≡ true = leads-from_LeadsBy big (2 * k) step [] (2 * k + 1) (record { legal = lead.legal; begins = a.tail; goes_on = eq-eqb (head_of big (arc_of step)) (2 * k + 1) a.head }) in
          let first : leads big (2 * k + 1) rest (2 * k) ≡ true = subst (λ i. leads big i rest (2 * k) ≡ true) a.head (subst (λ j. leads big (head_of big (arc_of step)) rest j ≡ true) a.tail lead.goes_on) in
          let runs = alternates town bans big is k a.own (rest ++ step ∷ []) k a.own a.place a.place (leads-join big (2 * k + 1) rest (step ∷ []) (2 * k) (2 * k + 1) first last) in
          let split : drop_turns (arcs_of town) (rest ++ step ∷ []) ≡ drop_turns (arcs_of town) rest ++ step_along a.own ∷ [] =
          drop_turns-append (arcs_of town) rest (step ∷ []) ∙ ap (λ xs. drop_turns (arcs_of town) rest ++ xs) (dropped_arc town bans big is step [] a) in
          subst (λ xs. Closes town bans xs) (sym (dropped_arc town bans big is step rest a))
          (closes_even town bans a.own (drop_turns (arcs_of town) rest) (subst (λ xs. Runs town bans a.own xs a.own) split runs))
      by (inr t) =
          let at = at_place town t.first (legal_own town t.first (turn_parts town bans t.first t.second t.turn).first) in
          let k = place_of town t.first in
          closes_odd town bans t.first (drop_turns (arcs_of town) (step ∷ rest))
          (alternates town bans big is k t.first (step ∷ rest) k t.first at at (subst (λ i. leads big i (step ∷ rest) i ≡ true) t.tail closed))

  pub dropped_tour : (steps : List Step) → is_tour big steps ≡ true → is_turning_tour town bans (drop_turns (arcs_of town) steps) ≡ true
  dropped_tour steps tour =
      let c = closes steps (tour_closed big steps tour) in
      and_from _ _ (tour_from town (drop_turns (arcs_of town) steps) c.closed
      (all_from_members (serves (drop_turns (arcs_of town) steps)) (demands town) (λ demand inside. dropped_serves steps demand tour inside))) c.kept

  pub dropped_tour_cost : (steps : List Step) → is_tour big steps ≡ true → walk_cost town (drop_turns (arcs_of town) steps) ≡ walk_cost big steps
  dropped_tour_cost steps tour = dropped_cost town bans big is steps (tour_legal big steps tour)
