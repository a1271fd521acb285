-- A component that holds every demand has a tour.
use Rattle.std.proofs.Common.{◌≡◌, ℕ, ◌<◌, ◌≤◌, Bool, true, false, ◌&&◌, ◌||◌, ◌==◌, nat_eq, List, [], ◌∷◌, ◌++◌, length, Contains, refl, sym, ap, ◌∙◌, subst, arith, eq-eqb}
use Rattle.std.specs.Prelude.{slice_index}
use Rattle.std.specs.List.{list_any, filter}
use Rattle.std.proofs.lemmas.Bool.{and_parts, and_from, or_left, or_right, eqb-true}
use Rattle.std.proofs.lemmas.List.Elements.{Contains-append_right, Contains-append_left}
use Rattle.std.proofs.lemmas.List.FromFn.{length-range_with_len, get_or-range_with_len}
use Rattle.wrp_sums.proofs.FirstNumbers.{inside_filter}
use Rattle.wrp_town.specs.declared.street.Step.{Step}
use Rattle.wrp_town.specs.declared.town.Town.{Town}
use Rattle.wrp_town.specs.Arcs.{is_legal, tail_of, head_of, demands, junctions, has_arc, arc_of, step_along}
use Rattle.wrp_town.specs.Walks.{leads, serves}
use Rattle.wrp_town.proofs.TownLaws.{arc_of-step_along, legal_below, tail_of-below, head_of-below}
use Rattle.wrp_town.proofs.WalkLaws.{LeadsBy-from_leads, leads-join, closed-from_leads, tour_from, serves-append}
use Rattle.wrp_town.proofs.Members.{inside_head, inside_tail, inside_cases, inside_none, any_from_member, all_from_members}
use Rattle.wrp_rules.specs.Sets.{is_in}
use Rattle.wrp_rules.specs.Rules.{breaks_label}
use Rattle.wrp_reach.specs.Reaching.{AreStronglyConnected, lies_within, is_held}
use Rattle.wrp_reach.specs.Answers.{IsJoined}
use Rattle.wrp_reach.specs.Components.{AreComponents}
use Rattle.wrp_reach.proofs.Ways.{reach_arc_step}
use Rattle.wrp_reach.proofs.Demands.{IsWithin, demand_within}

-- labels don't rise along a walk
pub reach_falls : (town : Town) (count : ℕ) (labels : List ℕ) (i j : ℕ) (steps : List Step) → AreComponents town count labels → leads town i steps j ≡ true → slice_index labels j ≤ slice_index labels i
reach_falls town count labels i j [] are lead = omega (arith, ap (slice_index labels) (eqb-true i j lead))
reach_falls town count labels i j (step ∷ steps) are lead =
    let by = LeadsBy-from_leads town i step steps j lead in
    omega (arith, reach_falls town count labels (head_of town (arc_of step)) j steps are by.goes_on, are.falls (arc_of step) by.legal, ap (slice_index labels) by.begins)

-- a walk from the base back to it that serves some demands
record IsRound (town : Town) (base : ℕ) (ds : List (List ℕ)) : Type 0 where
  steps : List Step
  goes : leads town base steps base ≡ true
  served : (d : List ℕ) → Contains ds d → serves steps d ≡ true

module _ (town : Town) (count : ℕ) (labels : List ℕ) (are : AreComponents town count labels) (base : ℕ) (there : base < length town.junctions) where
  abbrev home : ℕ
  home = slice_index labels base

  -- a junction with the label of the base, there and back
  strong_at : (j : ℕ) → j < length town.junctions → (slice_index labels j == home) ≡ true → AreStronglyConnected town base j
  strong_at j small is =
      let same = eqb-true (slice_index labels j) home is in
      (are.strong base j there small (sym same), are.strong j base small there same)

  round_more : (d : List ℕ) (ds : List (List ℕ)) → IsWithin town labels home d → IsRound town base ds → IsRound town base (d ∷ ds)
  round_more d ds w r =
      let below = legal_below town w.arc w.legal in
      let keeps = and_parts (slice_index labels (tail_of town w.arc) == home) (slice_index labels (head_of town w.arc) == home) w.keeps in
      let out = (strong_at (tail_of town w.arc) (tail_of-below town w.arc below) keeps.0).0 in
      let back = (strong_at (head_of town w.arc) (head_of-below town w.arc below) keeps.1).1 in
      let step = step_along w.arc in
      let here = reach_arc_step town w.arc w.legal in
      let loop : List Step = out.0 ++ (step ∷ []) ++ back.0 in
      let goes : leads town base loop base ≡ true = leads-join town base (out.0 ++ step ∷ []) back.0 (head_of town w.arc) base (leads-join town base out.0 (step ∷ []) (tail_of town w.arc) (head_of town w.arc) out.1 here) back.1 in
      let drives : has_arc d (arc_of step) ≡ true = any_from_member (nat_eq (arc_of step)) d w.arc w.inside (eq-eqb (arc_of step) w.arc (arc_of-step_along w.arc)) in
      let inside : Contains loop step = Contains-append_left (out.0 ++ step ∷ []) back.0 step (Contains-append_right out.0 (step ∷ []) step (inside_head step [])) in
      let serves_d : serves loop d ≡ true = any_from_member (λ s. has_arc d (arc_of s)) loop step inside drives in
      record {
        steps = loop ++ r.steps;
        goes = leads-join town base loop r.steps base base goes r.goes;
        served = λ e has. serves-append loop r.steps e ∙ inside_cases ((list_any (λ s. has_arc e (arc_of s)) loop || list_any (λ s. has_arc e (arc_of s)) r.steps) ≡ true) d ds e has
            (λ same. or_left (serves loop e) (serves r.steps e) (subst (λ z. serves loop z ≡ true) same serves_d))
            (λ other. or_right (serves loop e) (serves r.steps e) (r.served e other));
      }

  round_of : (ds : List (List ℕ)) → ((d : List ℕ) → Contains ds d → IsWithin town labels home d) → IsRound town base ds
  round_of [] each = record { steps = []; goes = eq-eqb base base refl; served = λ d has. absurd (inside_none d has) }
  round_of (d ∷ ds) each = round_more d ds (each d (inside_head d ds)) (round_of ds (λ e has. each e (inside_tail d ds e has)))

  -- the part
  abbrev is_home : ℕ → Bool
  is_home j = slice_index labels j == home

  in_part : (j : ℕ) → j < length town.junctions → is_home j ≡ true → is_in (filter is_home (junctions town)) j ≡ true
  in_part j small is =
      let inside : Contains (junctions town) j = (j, omega (arith, length-range_with_len 0 (length town.junctions)), get_or-range_with_len 0 (length town.junctions) j j small ∙ omega arith) in
      any_from_member (nat_eq j) (filter is_home (junctions town)) j (inside_filter is_home (junctions town) j inside is) (eq-eqb j j refl)

  held_in_part : (d : List ℕ) → IsWithin town labels home d → is_held town (filter is_home (junctions town)) d ≡ true
  held_in_part d w =
      let part = filter is_home (junctions town) in
      let below = legal_below town w.arc w.legal in
      let keeps = and_parts (is_home (tail_of town w.arc)) (is_home (head_of town w.arc)) w.keeps in
      any_from_member (λ arc. is_legal town arc && lies_within town part arc) d w.arc w.inside
      (and_from (is_legal town w.arc) (lies_within town part w.arc) w.legal
      (and_from (is_in part (tail_of town w.arc)) (is_in part (head_of town w.arc)) (in_part (tail_of town w.arc) (tail_of-below town w.arc below) keeps.0) (in_part (head_of town w.arc) (head_of-below town w.arc below) keeps.1)))

  pub joined_by : (part : List ℕ) → part ≡ filter is_home (junctions town) → 0 < length (demands town) → ((s : ℕ) → s < length town.streets → breaks_label town labels home s ≡ false) → IsJoined town part
  joined_by part is some none =
      let within : (d : List ℕ) → Contains (demands town) d → IsWithin town labels home d = λ d has. demand_within town labels home d none has in
      let round = round_of (demands town) within in
      record {
        tour = round.steps;
        serves = tour_from town round.steps (closed-from_leads town base round.steps round.goes) (all_from_members (serves round.steps) (demands town) round.served);
        held = all_from_members (is_held town part) (demands town) (λ d has. subst (λ (p : List ℕ). is_held town p d ≡ true) (sym is) (held_in_part d (within d has)));
        component = λ _. record {
          base = base;
          there = there;
          is_inside = is_home;
          inside = λ j small. (
            strong_at j small,
            λ strong. eq-eqb (slice_index labels j) home (omega (arith, reach_falls town count labels base j strong.0.0 are strong.0.1, reach_falls town count labels j base strong.1.0 are strong.1.1)),
          );
          all = is;
        };
        none = λ nothing. absurd (omega arith);
      }
