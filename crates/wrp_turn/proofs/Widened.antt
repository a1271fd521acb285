-- Each turning tour is what is left of a tour of the turn town.
use Rattle.std.proofs.Common.{◌≡◌, ℕ, ◌+◌, ◌*◌, ◌/◌, ◌≤◌, true, ◌==◌, ◌&&◌, ◌||◌, not, List, [], ◌∷◌, length, Some, is_some, Contains, ap, refl, sym, ◌∙◌, subst, inl, inr, arith, eq-eqb}
use Rattle.std.specs.Prelude.{slice_get, nat_lt}
use Rattle.std.specs.List.{list_any, filter, slice_index_or}
use Rattle.std.specs.Option.{unwrap_or}
use Rattle.std.proofs.lemmas.Bool.{and_parts, or_cases, or_left, not-true, ltb-true, false≢true}
use Rattle.std.proofs.lemmas.Option.{slice_get-get_or}
use Rattle.wrp_town.specs.declared.street.Step.{Step}
use Rattle.wrp_town.specs.declared.town.Town.{Town}
use Rattle.wrp_town.specs.Arcs.{is_legal, tail_of, arcs, demands, has_arc, arc_of, step_along}
use Rattle.wrp_town.specs.Walks.{leads, is_closed_walk, serves, serves_all, is_tour, walk_cost, IsLeastCost, HasNoTour}
use Rattle.wrp_town.proofs.TownLaws.{arc_of-half, arc_of-step_along}
use Rattle.wrp_town.proofs.WalkLaws.{are_legal, LeadsBy-from_leads, leads-from_LeadsBy, closed-from_leads, are_legal-from_closed, tour_closed, tour_serves, tour_from, tour_legal, walk_cost-cons}
use Rattle.wrp_town.proofs.Members.{any_from_member, member_from_any, member_passes, all_from_members}
use Rattle.wrp_town.proofs.ServiceLaws.{member_from_has_arc}
use Rattle.wrp_turn.specs.Turns.{is_turn, keeps_bans, is_turning_tour, IsLeastTurning, HasNoTurningTour}
use Rattle.wrp_turn.specs.TurnTowns.{is_first_of, is_unservable, arcs_of, place_of, arc_street, turns_of, turn_street, IsTurnTown, can_turn, drop_turns}
use Rattle.wrp_town_laws.proofs.Lists.{slice_get_map, inside_from_get, get_from_inside, from_filter, from_map}
use Rattle.wrp_town_laws.proofs.Demands.{either_arcs}
use Rattle.wrp_turn.proofs.Places.{turn_parts, step_along-arc_of, legal_own, place_is, at_place, same_own, inside_turns}
use Rattle.wrp_turn.proofs.Runs.{Runs, runs_from}
use Rattle.wrp_turn.proofs.BigSteps.{forward_step, IsForwardStep, forward_step_is, arc_street_at, turn_street_at, arc_step, turn_step, dropped_arc, dropped_turn}
use Rattle.wrp_turn.proofs.OwnDemands.{one_way, IsArcDemand, arc_demand_from}
use Rattle.wrp_turn.proofs.DroppedTours.{all_demands, dropped_tour, dropped_tour_cost}

pub record IsExpandedTurning (town big : Town) (steps : List Step) : Type 0 where
  pub wide : List Step
  pub tour : is_tour big wide ≡ true
  pub dropped : drop_turns (arcs_of town) wide ≡ steps
  pub cost : walk_cost big wide ≡ walk_cost town steps

module _ (town : Town) (bans : List (ℕ × ℕ)) (big : Town) (is : IsTurnTown town bans big) where
  record IsWide (a : ℕ) (steps : List Step) (b : ℕ) : Type 0 where
    wide : List Step
    lead : leads big (2 * place_of town a + 1) wide (2 * place_of town b + 1) ≡ true
    cost : walk_cost big wide ≡ walk_cost town steps
    dropped : drop_turns (arcs_of town) wide ≡ steps

  record IsTurnForward (a b : ℕ) : Type 0 where
    s : ℕ
    past : length (arcs_of town) ≤ s
    step : IsForwardStep big (turn_street town (a, b)) s

  turn_forward : (a b : ℕ) → is_turn town bans a b ≡ true → IsTurnForward a b
  turn_forward a b turn =
      let at = get_from_inside (turns_of town bans) (a, b) (inside_turns town bans a b turn) in
      let s = length (arcs_of town) + at.0 in
      record {
        s = s;
        past = omega arith;
        step = forward_step_is big (turn_street town (a, b)) s
            (turn_street_at town bans big is at.0 s refl ∙ slice_get_map (turn_street town) (turns_of town bans) at.0 (a, b) at.1);
      }

  arc_forward : (a : ℕ) → is_legal town a ≡ true → IsForwardStep big (arc_street town a) (place_of town a)
  arc_forward a legal = forward_step_is big (arc_street town a) (place_of town a) (arc_street_at town bans big is (place_of town a) a (at_place town a (legal_own town a legal)))

  wide_more : (a : ℕ) (step : Step) (steps : List Step) (b : ℕ) → is_turn town bans a (arc_of step) ≡ true → IsWide (arc_of step) steps b → IsWide a (step ∷ steps) b
  wide_more a step steps b turn rest =
      let d = arc_of step in
      let parts = turn_parts town bans a d turn in
      let t = turn_forward a d turn in
      let f = arc_forward d parts.second in
      let first = forward_step t.s in
      let second = forward_step (place_of town d) in
      let first_legal : is_legal big (arc_of first) ≡ true = ap is_some t.step.cost in
      let second_legal : is_legal big (arc_of second) ≡ true = ap is_some f.cost ∙ parts.second in
      let place = at_place town d (legal_own town d parts.second) in
      let past = t.past in
      let first_half : length (arcs_of town) ≤ arc_of first / 2 = omega (arith, arc_of-half first) in
      let turns = turn_step town bans big is (arc_of first) first_half first_legal in
      let second_half : arc_of second / 2 ≡ place_of town d = arc_of-half second in
      let drives = arc_step town bans big is (arc_of second) d (ap (slice_get (arcs_of town)) second_half ∙ place) second_legal in
      let own : drives.own ≡ d = same_own town (arc_of second / 2) (place_of town d) drives.own d second_half drives.place place in
      let end = 2 * place_of town b + 1 in
      record {
        wide = first ∷ second ∷ rest.wide;
        lead = leads-from_LeadsBy big (2 * place_of town a + 1) first (second ∷ rest.wide) end (record {
          legal = first_legal;
          begins = t.step.tail;
          goes_on = subst (λ i. leads big i (second ∷ rest.wide) end ≡ true) (sym t.step.head)
              (leads-from_LeadsBy big (2 * place_of town d) second rest.wide end (record { legal = second_legal; begins = f.tail; goes_on = subst (λ i. leads big i rest.wide end ≡ true) (sym f.head) rest.lead }));
        });
        cost = omega (arith, walk_cost-cons big first (second ∷ rest.wide), walk_cost-cons big second rest.wide, walk_cost-cons town step steps, rest.cost, ap (λ o. unwrap_or o 0) t.step.cost, ap (λ o. unwrap_or o 0) f.cost);
        dropped = dropped_turn town bans big is first (second ∷ rest.wide) turns ∙ dropped_arc town bans big is second rest.wide drives
            ∙ ap (λ n. step_along n ∷ drop_turns (arcs_of town) rest.wide) own ∙ ap (λ s. s ∷ drop_turns (arcs_of town) rest.wide) (step_along-arc_of step) ∙ ap (λ xs. step ∷ xs) rest.dropped;
      }

  is_wide : (a : ℕ) (steps : List Step) (b : ℕ) → Runs town bans a steps b → IsWide a steps b
  is_wide a [] b runs = record { wide = []; lead = eq-eqb (2 * place_of town a + 1) (2 * place_of town b + 1) (ap (λ x. 2 * place_of town x + 1) runs); cost = refl; dropped = refl }
  is_wide a (step ∷ steps) b runs = wide_more a step steps b runs.0 (is_wide (arc_of step) steps b runs.1)

  -- the step on the street of an arc that is used
  street_used : (wide steps : List Step) (t : Step) (k b : ℕ) → are_legal big wide ≡ true → drop_turns (arcs_of town) wide ≡ steps → Contains steps t → arc_of t ≡ b → slice_get (arcs_of town) k ≡ Some b → serves wide (either_arcs k) ≡ true
  street_used wide steps t k b legal dropped inside at place =
      let m = from_map (λ s. step_along (slice_index_or (arcs_of town) s.street 0)) (filter (λ s. nat_lt s.street (length (arcs_of town))) wide) t (subst (λ xs. Contains xs t) (sym dropped) inside) in
      let f = from_filter (λ s. nat_lt s.street (length (arcs_of town))) wide m.0 m.1 in
      used m.0 (slice_index_or (arcs_of town) m.0.street 0)
      (slice_get-get_or (arcs_of town) m.0.street 0 (ltb-true m.0.street (length (arcs_of town)) f.1)) (sym (arc_of-step_along (slice_index_or (arcs_of town) m.0.street 0)) ∙ ap arc_of m.2 ∙ at) f.0
      (member_passes (λ s. is_legal big (arc_of s)) wide m.0 legal f.0)
    where
      used : (u : Step) (x : ℕ) → slice_get (arcs_of town) u.street ≡ Some x → x ≡ b → Contains wide u → is_legal big (arc_of u) ≡ true → serves wide (either_arcs k) ≡ true
      used u x there same inside_wide u_legal =
          let a = arc_step town bans big is (arc_of u) x (ap (slice_get (arcs_of town)) (arc_of-half u) ∙ there) u_legal in
          let half : arc_of u / 2 ≡ k = arc_of-half u ∙ sym (place_is town u.street x there) ∙ ap (place_of town) same ∙ place_is town k b place in
          let even = a.even in
          let first : arc_of u ≡ 2 * k = omega arith in
          any_from_member (λ s. has_arc (either_arcs k) (arc_of s)) wide u inside_wide (or_left (arc_of u == 2 * k) _ (eq-eqb (arc_of u) (2 * k) first))

  -- a legal arc that serves the demand of an arc with a street is that arc
  same_arc : (steps : List Step) (demand : List ℕ) (b : ℕ) (t : Step) → can_turn town ≡ true → is_tour town steps ≡ true → Contains (arcs_of town) b → Contains (demands town) demand → Contains demand b
      → Contains demand (arc_of t) → is_legal town (arc_of t) ≡ true → arc_of t ≡ b
  same_arc steps demand b t can tour own inside has_b has_t legal =
      elim (or_cases (is_legal town b) (is_unservable town b) (from_filter (λ a. is_legal town a || is_unservable town a) (arcs town) b own).1) [
        | inl legal_b ↦ one_way town demand (arc_of t) b can inside has_t has_b legal legal_b
        | inr un ↦ (let m = member_from_any (λ d. is_first_of b d && not (list_any (is_legal town) d)) (demands town) un in
            let parts = and_parts (is_first_of b m.0) (not (list_any (is_legal town) m.0)) m.2 in
            let u = member_from_any (λ step. has_arc m.0 (arc_of step)) steps (member_passes (serves steps) (demands town) m.0 (tour_serves town steps tour) m.1) in
            let u_legal = member_passes (λ step. is_legal town (arc_of step)) steps u.0 (tour_legal town steps tour) u.1 in
            absurd (false≢true (sym (not-true (list_any (is_legal town) m.0) parts.1) ∙ any_from_member (is_legal town) m.0 (arc_of u.0) (member_from_has_arc m.0 (arc_of u.0) u.2) u_legal)))
      ]

  wide_serves : (steps wide : List Step) → can_turn town ≡ true → is_tour town steps ≡ true → are_legal big wide ≡ true → drop_turns (arcs_of town) wide ≡ steps → serves_all big wide ≡ true
  wide_serves steps wide can tour legal dropped =
      all_from_members (serves wide) (demands big) (λ demand inside. by demand (arc_demand_from town 0 (arcs_of town) demand (subst (λ ds. Contains ds demand) (all_demands town bans big is) inside)))
    where
      by : (demand : List ℕ) → IsArcDemand town 0 (arcs_of town) demand → serves wide demand ≡ true
      by demand r =
          let d = member_from_any (λ e. has_arc e r.b) (demands town) r.demanded in
          let t = member_from_any (λ step. has_arc d.0 (arc_of step)) steps (member_passes (serves steps) (demands town) d.0 (tour_serves town steps tour) d.1) in
          let t_legal = member_passes (λ step. is_legal town (arc_of step)) steps t.0 (tour_legal town steps tour) t.1 in
          let at = same_arc steps d.0 r.b t.0 can tour (inside_from_get (arcs_of town) r.k r.b r.place) d.1 (member_from_has_arc d.0 r.b d.2) (member_from_has_arc d.0 (arc_of t.0) t.2) t_legal in
          let k : 0 + r.k ≡ r.k = omega arith in
          subst (λ e. serves wide e ≡ true) (sym (r.same ∙ ap either_arcs k)) (street_used wide steps t.0 r.k r.b legal dropped t.1 at r.place)

  wide_tour : (steps wide : List Step) → can_turn town ≡ true → is_tour town steps ≡ true → is_closed_walk big wide ≡ true → walk_cost big wide ≡ walk_cost town steps → drop_turns (arcs_of town) wide ≡ steps → IsExpandedTurning town big steps
  wide_tour steps wide can tour closed cost dropped =
      record { wide = wide; tour = tour_from big wide closed (wide_serves steps wide can tour (are_legal-from_closed big wide closed) dropped); dropped = dropped; cost = cost }

  expand_by : (steps : List Step) → can_turn town ≡ true → is_tour town steps ≡ true → keeps_bans bans steps ≡ true → IsExpandedTurning town big steps
  expand_by [] can tour kept = wide_tour [] [] can tour refl refl refl
  expand_by (step ∷ steps) can tour kept =
      let lead = LeadsBy-from_leads town (tail_of town (arc_of step)) step steps (tail_of town (arc_of step)) (tour_closed town (step ∷ steps) tour) in
      let r = runs_from town bans (arc_of step) steps (tail_of town (arc_of step)) (arc_of step) lead.legal lead.legal refl lead.goes_on kept in
      let w = is_wide r.0 (step ∷ steps) r.0 (r.2, r.1) in
      wide_tour (step ∷ steps) w.wide can tour (closed-from_leads big (2 * place_of town r.0 + 1) w.wide w.lead) w.cost w.dropped

  pub expanded_tour : (steps : List Step) → can_turn town ≡ true → is_turning_tour town bans steps ≡ true → IsExpandedTurning town big steps
  expanded_tour steps can turning = let p = and_parts (is_tour town steps) (keeps_bans bans steps) turning in expand_by steps can p.0 p.1

  pub comes_from_tour : (steps : List Step) → can_turn town ≡ true → is_turning_tour town bans steps ≡ true
      → (wide : List Step) × (is_tour big wide ≡ true) × (drop_turns (arcs_of town) wide ≡ steps) × (walk_cost big wide ≡ walk_cost town steps)
  comes_from_tour steps can turning = let w = expanded_tour steps can turning in (w.wide, w.tour, w.dropped, w.cost)

  pub least_turning : (cost : ℕ) → can_turn town ≡ true → IsLeastCost big cost → IsLeastTurning town bans cost
  least_turning cost can least = record {
    steps = drop_turns (arcs_of town) least.tour;
    tour = dropped_tour town bans big is least.tour least.serves;
    attained = dropped_tour_cost town bans big is least.tour least.serves ∙ least.attained;
    least = λ steps turning. let w = expanded_tour steps can turning in subst (λ c. cost ≤ c) w.cost (least.least w.wide w.tour);
  }

  pub least_expanded : (cost : ℕ) → can_turn town ≡ true → IsLeastTurning town bans cost → IsLeastCost big cost
  least_expanded cost can least =
      let w = expanded_tour least.steps can least.tour in
      record {
        tour = w.wide;
        serves = w.tour;
        attained = w.cost ∙ least.attained;
        least = λ steps tour. subst (λ c. cost ≤ c) (dropped_tour_cost town bans big is steps tour) (least.least (drop_turns (arcs_of town) steps) (dropped_tour town bans big is steps tour));
      }

  pub none_turning : can_turn town ≡ true → HasNoTour big → HasNoTurningTour town bans
  none_turning can none = λ steps turning. let w = expanded_tour steps can turning in none w.wide w.tour

  pub none_expanded : HasNoTurningTour town bans → HasNoTour big
  none_expanded none = λ steps tour. none (drop_turns (arcs_of town) steps) (dropped_tour town bans big is steps tour)
