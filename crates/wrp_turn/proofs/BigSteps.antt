-- The legal arcs of the turn town, and the walks over them: turns and arcs by turns.
use Rattle.std.proofs.Common.{◌≡◌, ℕ, ◌+◌, ◌-◌, ◌*◌, ◌/◌, ◌%◌, ◌<◌, ◌≤◌, true, false, cond, ◌==◌, List, [], ◌∷◌, map, length, Some, ap, refl, sym, ◌∙◌, subst, inl, inr, ◌⊎◌, arith, eq-eqb}
use Rattle.std.specs.Prelude.{slice_get, nat_lt}
use Rattle.std.specs.List.{filter, slice_index_or}
use Rattle.std.specs.Option.{unwrap_or}
use Rattle.std.proofs.lemmas.Bool.{and_parts, eqb-true, cases_lt, lt-ltb}
use Rattle.std.proofs.lemmas.List.{length-map}
use Rattle.std.proofs.lemmas.Option.{slice_get_within, get_or_from_slice_get}
use Rattle.wrp_town.specs.declared.street.Street.{Street}
use Rattle.wrp_town.specs.declared.street.Step.{Step}
use Rattle.wrp_town.specs.declared.town.Town.{Town}
use Rattle.wrp_town.specs.Arcs.{street_of, is_legal, tail_of, head_of, cost_of, cost_or_zero, arc_of, step_along}
use Rattle.wrp_town.specs.Walks.{leads, walk_cost}
use Rattle.wrp_town.proofs.TownLaws.{slice_get_inside, street_of_below, legal_below, tail_of-at, head_of-at, arc_of-half, arc_of-step_along}
use Rattle.wrp_town.proofs.WalkLaws.{are_legal, LeadsBy-from_leads, walk_cost-cons}
use Rattle.wrp_turn.specs.Turns.{is_turn}
use Rattle.wrp_turn.specs.TurnTowns.{arcs_of, place_of, arc_street, turns_of, turn_street, IsTurnTown, drop_turns}
use Rattle.wrp_town_laws.proofs.Lists.{slice_get_left, slice_get_right, slice_get_mapped, slice_get_map, inside_from_get, le-not_lt}
use Rattle.wrp_town_laws.proofs.OneWay.{cost_of-at, forward_only}
use Rattle.wrp_turn.proofs.Places.{turn_parts, legal_own, place_is, at_place, same_own, from_turns}
use Rattle.wrp_turn.proofs.Runs.{Runs}

pub record IsArcStep (town big : Town) (arc : ℕ) : Type 0 where
  pub own : ℕ
  pub below : arc / 2 < length (arcs_of town)
  pub place : slice_get (arcs_of town) (arc / 2) ≡ Some own
  pub even : arc ≡ 2 * (arc / 2)
  pub tail : tail_of big arc ≡ 2 * (arc / 2)
  pub head : head_of big arc ≡ 2 * (arc / 2) + 1
  pub cost : cost_of big arc ≡ cost_of town own

pub record IsTurnStep (town big : Town) (bans : List (ℕ × ℕ)) (arc : ℕ) : Type 0 where
  pub past : length (arcs_of town) ≤ arc / 2
  pub first : ℕ
  pub second : ℕ
  pub turn : is_turn town bans first second ≡ true
  pub tail : tail_of big arc ≡ 2 * place_of town first + 1
  pub head : head_of big arc ≡ 2 * place_of town second
  pub cost : cost_of big arc ≡ Some 0

abbrev pub forward_step : ℕ → Step
forward_step s = record { street = s; back = false }

-- the forward arc of a street
pub record IsForwardStep (big : Town) (street : Street) (s : ℕ) : Type 0 where
  pub tail : tail_of big (arc_of (forward_step s)) ≡ street.from
  pub head : head_of big (arc_of (forward_step s)) ≡ street.to
  pub cost : cost_of big (arc_of (forward_step s)) ≡ street.forward

pub forward_step_is : (big : Town) (street : Street) (s : ℕ) → slice_get big.streets s ≡ Some street → IsForwardStep big street s
forward_step_is big street s is =
    let arc = arc_of (forward_step s) in
    let even : (arc % 2 == 0) ≡ true = eq-eqb (arc % 2) 0 (omega arith) in
    let at : street_of big arc ≡ Some street = ap (slice_get big.streets) (arc_of-half (forward_step s)) ∙ is in
    record {
      tail = tail_of-at big arc street at ∙ ap (λ b. cond b street.from street.to) even;
      head = head_of-at big arc street at ∙ ap (λ b. cond b street.to street.from) even;
      cost = cost_of-at big arc street at ∙ ap (λ b. cond b street.forward street.backward) even;
    }

module _ (town : Town) (bans : List (ℕ × ℕ)) (big : Town) (is : IsTurnTown town bans big) where
  pub arc_street_at : (k own : ℕ) → slice_get (arcs_of town) k ≡ Some own → slice_get big.streets k ≡ Some (arc_street town own)
  arc_street_at k own place =
      ap (λ streets. slice_get streets k) is.streets
      ∙ slice_get_left (map (arc_street town) (arcs_of town)) (map (turn_street town) (turns_of town bans)) k (omega (arith, slice_get_within (map (arc_street town) (arcs_of town)) k (arc_street town own) (slice_get_map (arc_street town) (arcs_of town) k own place)))
      ∙ slice_get_map (arc_street town) (arcs_of town) k own place

  pub turn_street_at : (k i : ℕ) → i ≡ length (arcs_of town) + k → slice_get big.streets i ≡ slice_get (map (turn_street town) (turns_of town bans)) k
  turn_street_at k i at =
      ap (λ streets. slice_get streets i) is.streets
      ∙ slice_get_right (map (arc_street town) (arcs_of town)) (map (turn_street town) (turns_of town bans)) i k (omega (arith, length-map (arcs_of town) (arc_street town)))

  pub arc_step : (arc own : ℕ) → slice_get (arcs_of town) (arc / 2) ≡ Some own → is_legal big arc ≡ true → IsArcStep town big arc
  arc_step arc own place legal =
      let f = forward_only big (arc_street town own) arc (arc_street_at (arc / 2) own place) refl legal in
      let at = place_is town (arc / 2) own place in
      record {
        own = own;
        below = slice_get_within (arcs_of town) (arc / 2) own place;
        place = place;
        even = f.even;
        tail = f.tail ∙ ap (λ (n : ℕ). 2 * n) at;
        head = f.head ∙ ap (λ (n : ℕ). 2 * n + 1) at;
        cost = f.cost;
      }

  pub turn_step : (arc : ℕ) → length (arcs_of town) ≤ arc / 2 → is_legal big arc ≡ true → IsTurnStep town big bans arc
  turn_step arc past legal =
      let k = arc / 2 - length (arcs_of town) in
      let s = street_of_below big arc (legal_below big arc legal) in
      let m = slice_get_mapped (turn_street town) (turns_of town bans) k s.0 (sym (turn_street_at k (arc / 2) (omega arith)) ∙ s.1) in
      let f = forward_only big (turn_street town m.0) arc (s.1 ∙ ap Some (sym m.2)) refl legal in
      record {
        past = past;
        first = m.0.0;
        second = m.0.1;
        turn = from_turns town bans m.0 (inside_from_get (turns_of town bans) k m.0 m.1);
        tail = f.tail;
        head = f.head;
        cost = f.cost;
      }

  pub arc_or_turn : (arc : ℕ) → is_legal big arc ≡ true → (IsArcStep town big arc) ⊎ (IsTurnStep town big bans arc)
  arc_or_turn arc legal = elim (cases_lt (arc / 2) (length (arcs_of town))) [
    | inl below ↦ (let own = slice_get_inside (arcs_of town) (arc / 2) below in inl (arc_step arc own.0 own.1 legal))
    | inr past ↦ inr (turn_step arc past legal)
  ]

  -- ---- without the turns

  pub dropped_arc : (step : Step) (steps : List Step) → (a : IsArcStep town big (arc_of step)) → drop_turns (arcs_of town) (step ∷ steps) ≡ step_along a.own ∷ drop_turns (arcs_of town) steps
  dropped_arc step steps a =
      let half = arc_of-half step in
      let below = a.below in
      let own : nat_lt step.street (length (arcs_of town)) ≡ true = lt-ltb step.street (length (arcs_of town)) (omega arith) in
      ap (λ b. map (λ s. step_along (slice_index_or (arcs_of town) s.street 0)) (cond b (step ∷ filter (λ s. nat_lt s.street (length (arcs_of town))) steps) (filter (λ s. nat_lt s.street (length (arcs_of town))) steps))) own
      ∙ ap (λ n. step_along n ∷ drop_turns (arcs_of town) steps) (get_or_from_slice_get (arcs_of town) step.street a.own 0 (ap (slice_get (arcs_of town)) (sym half) ∙ a.place))

  pub dropped_turn : (step : Step) (steps : List Step) → IsTurnStep town big bans (arc_of step) → drop_turns (arcs_of town) (step ∷ steps) ≡ drop_turns (arcs_of town) steps
  dropped_turn step steps t =
      let half = arc_of-half step in
      let past = t.past in
      let own : nat_lt step.street (length (arcs_of town)) ≡ false = le-not_lt step.street (length (arcs_of town)) (omega arith) in
      ap (λ b. map (λ s. step_along (slice_index_or (arcs_of town) s.street 0)) (cond b (step ∷ filter (λ s. nat_lt s.street (length (arcs_of town))) steps) (filter (λ s. nat_lt s.street (length (arcs_of town))) steps))) own

  pub dropped_cost : (steps : List Step) → are_legal big steps ≡ true → walk_cost town (drop_turns (arcs_of town) steps) ≡ walk_cost big steps
  dropped_cost [] legal = refl
  dropped_cost (step ∷ steps) legal =
      by (arc_or_turn (arc_of step) both.0) (dropped_cost steps both.1)
    where
      both : (is_legal big (arc_of step) ≡ true) × (are_legal big steps ≡ true)
      both = and_parts (is_legal big (arc_of step)) (are_legal big steps) legal

      by : (IsArcStep town big (arc_of step)) ⊎ (IsTurnStep town big bans (arc_of step)) → walk_cost town (drop_turns (arcs_of town) steps) ≡ walk_cost big steps → walk_cost town (drop_turns (arcs_of town) (step ∷ steps)) ≡ walk_cost big (step ∷ steps)
      by (inl a) rest =
          ap (walk_cost town) (dropped_arc step steps a)
          ∙ omega (arith, walk_cost-cons town (step_along a.own) (drop_turns (arcs_of town) steps), walk_cost-cons big step steps, rest, ap (λ o. unwrap_or o 0) a.cost, ap (cost_or_zero town) (arc_of-step_along a.own))
      by (inr t) rest =
          ap (walk_cost town) (dropped_turn step steps t) ∙ omega (arith, walk_cost-cons big step steps, rest, ap (λ o. unwrap_or o 0) t.cost)

  no_arc_first : (k : ℕ) (arc : ℕ) → tail_of big arc ≡ 2 * k + 1 → IsArcStep town big arc → ⊥
  no_arc_first k arc begins a = let tail = a.tail in omega arith

  no_turn_second : (k : ℕ) (arc : ℕ) → tail_of big arc ≡ 2 * k → IsTurnStep town big bans arc → ⊥
  no_turn_second k arc begins t = let tail = t.tail in omega arith

  turn_first : (k : ℕ) (arc : ℕ) → is_legal big arc ≡ true → tail_of big arc ≡ 2 * k + 1 → IsTurnStep town big bans arc
  turn_first k arc legal begins = elim (arc_or_turn arc legal) [ inl a ↦ absurd (no_arc_first k arc begins a) | inr t ↦ t ]

  arc_second : (k : ℕ) (arc : ℕ) → is_legal big arc ≡ true → tail_of big arc ≡ 2 * k → IsArcStep town big arc
  arc_second k arc legal begins = elim (arc_or_turn arc legal) [ inl a ↦ a | inr t ↦ absurd (no_turn_second k arc begins t) ]

  -- a turn behind arc a, and the arc after it
  one_turn : (k a : ℕ) (first second : Step) (rest : List Step) (b : ℕ) → slice_get (arcs_of town) k ≡ Some a → tail_of big (arc_of first) ≡ 2 * k + 1 → (t : IsTurnStep town big bans (arc_of first))
      → tail_of big (arc_of second) ≡ head_of big (arc_of first) → (s : IsArcStep town big (arc_of second)) → Runs town bans s.own (drop_turns (arcs_of town) rest) b
      → Runs town bans a (drop_turns (arcs_of town) (first ∷ second ∷ rest)) b
  one_turn k a first second rest b place begins t meets s rest_runs =
      let parts = turn_parts town bans t.first t.second t.turn in
      let tail = t.tail in
      let head = t.head in
      let own_tail = s.tail in
      let first_is : t.first ≡ a = same_own town (place_of town t.first) k t.first a (omega arith) (at_place town t.first (legal_own town t.first parts.first)) place in
      let second_is : t.second ≡ s.own = same_own town (place_of town t.second) (arc_of second / 2) t.second s.own (omega arith) (at_place town t.second (legal_own town t.second parts.second)) s.place in
      let turn : is_turn town bans a s.own ≡ true = subst (λ x. is_turn town bans x s.own ≡ true) first_is (subst (λ y. is_turn town bans t.first y ≡ true) second_is t.turn) in
      let along : s.own ≡ arc_of (step_along s.own) = sym (arc_of-step_along s.own) in
      subst (λ steps. Runs town bans a steps b) (sym (dropped_turn first (second ∷ rest) t ∙ dropped_arc second rest s))
      (subst (λ x. is_turn town bans a x ≡ true) along turn, subst (λ x. Runs town bans x (drop_turns (arcs_of town) rest) b) along rest_runs)

  pub alternates : (k a : ℕ) (steps : List Step) (j b : ℕ) → slice_get (arcs_of town) k ≡ Some a → slice_get (arcs_of town) j ≡ Some b → leads big (2 * k + 1) steps (2 * j + 1) ≡ true → Runs town bans a (drop_turns (arcs_of town) steps) b
  alternates k a [] j b at_k at_j lead =
      let same = eqb-true (2 * k + 1) (2 * j + 1) lead in same_own town k j a b (omega arith) at_k at_j
  alternates k a (first ∷ []) j b at_k at_j lead =
      let by = LeadsBy-from_leads big (2 * k + 1) first [] (2 * j + 1) lead in
      let t = turn_first k (arc_of first) by.legal by.begins in
      let head = t.head in
      let ends = eqb-true (head_of big (arc_of first)) (2 * j + 1) by.goes_on in
      absurd (omega arith)
  alternates k a (first ∷ second ∷ rest) j b at_k at_j lead =
      let by = LeadsBy-from_leads big (2 * k + 1) first (second ∷ rest) (2 * j + 1) lead in
      let t = turn_first k (arc_of first) by.legal by.begins in
      let next = LeadsBy-from_leads big (head_of big (arc_of first)) second rest (2 * j + 1) by.goes_on in
      let s = arc_second (place_of town t.second) (arc_of second) next.legal (next.begins ∙ t.head) in
      one_turn k a first second rest b at_k by.begins t next.begins s
      (alternates (arc_of second / 2) s.own rest j b s.place at_j (subst (λ i. leads big i rest (2 * j + 1) ≡ true) s.head next.goes_on))
