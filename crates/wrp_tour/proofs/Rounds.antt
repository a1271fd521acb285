-- Rounds: walks from a base that go on within its component.
use Rattle.std.proofs.Common.{◌≡◌, ℕ, ◌+◌, ◌<◌, Bool, true, false, ◌&&◌, ◌||◌, nat_eq, List, [], ◌∷◌, ◌++◌, length, drop, Contains, Option, Some, None, refl, sym, ap, ◌∙◌, subst, inl, inr, arith, eq-eqb}
use Rattle.std.specs.Prelude.{◌⊎◌}
use Rattle.std.specs.Option.{option_map}
use Rattle.std.specs.List.{list_all, filter, range_with_len}
use Rattle.std.proofs.lemmas.Bool.{and_parts, or_left, or_right, cases_lt, eqb-true, true≢false, false≢true}
use Rattle.std.specs.List.{All}
use Rattle.std.proofs.lemmas.List.Elements.{Contains-append_cases, Contains-append_left, Contains-append_right, All-contains, All-filter, filter_passes}
use Rattle.std.proofs.lemmas.List.FromFn.{length-range_with_len, get_or-range_with_len}
use Rattle.wrp_town.specs.declared.street.Need.{Need}
use Rattle.wrp_town.specs.declared.street.Step.{Step}
use Rattle.wrp_town.specs.declared.town.Town.{Town}
use Rattle.wrp_town.specs.Streets.{demands_at, demands_from}
use Rattle.wrp_town.specs.Arcs.{arc_of, is_legal, tail_of, head_of, demands, has_arc, step_along, junctions}
use Rattle.wrp_town.specs.Walks.{leads, serves, is_tour}
use Rattle.wrp_town.proofs.TownLaws.{arc_of-step_along, legal_below, head_of-below}
use Rattle.wrp_town.proofs.WalkLaws.{leads-join, serves-append, closed-from_leads, tour_from}
use Rattle.wrp_town.proofs.Members.{inside_head, inside_none, inside_cases, member_from_any, any_from_member, all_from_members, member_passes}
use Rattle.wrp_rules.specs.Sets.{is_in}
use Rattle.wrp_paths.specs.Distances.{IsDistance, AreShortest, Ways, way_to}
use Rattle.wrp_reach.specs.Reaching.{Reaches, AreStronglyConnected, IsComponent, lies_within, is_held}
use Rattle.wrp_reach.specs.Answers.{IsJoined}
use Rattle.wrp_reach.proofs.Ways.{reach_none, reach_join, reach_arc_step}
use Rattle.wrp_tour.specs.declared.plain.Round.{Round}
use Rattle.wrp_tour.specs.Plain.{IsRound, GoesOn, IsNear, IsHome, AreHeld, ServesStreet}

-- ---- shortest walks

way_by : (town : Town) (from to : ℕ) (path : List Step) (o : Option (ℕ × List Step)) → IsDistance town from to o → option_map (λ (way : ℕ × List Step). way.1) o ≡ Some path → leads town from path to ≡ true
way_by town from to path None is found = absurd (cc)
way_by town from to path (Some way) is found = let same : way.1 ≡ path = cc in subst (λ (p : List Step). leads town from p to ≡ true) same is.0.leads_there

pub way_leads : (town : Town) (from to : ℕ) (ways : Ways) (found : Option (List Step)) (path : List Step) → AreShortest town from ways → to < length town.junctions → found ≡ option_map (λ (way : ℕ × List Step). way.1) (way_to ways to) → found ≡ Some path → leads town from path to ≡ true
way_leads town from to ways found path are small is some = way_by town from to path (way_to ways to) (are.shortest to small) (sym is ∙ some)

none_by : (town : Town) (from to : ℕ) (o : Option (ℕ × List Step)) → IsDistance town from to o → option_map (λ (way : ℕ × List Step). way.1) o ≡ None → Reaches town from to → ⊥
none_by town from to None is found reach = is reach.0 reach.1
none_by town from to (Some way) is found reach = absurd (cc)

pub way_is_there : (town : Town) (from to : ℕ) (ways : Ways) (found : Option (List Step)) → AreShortest town from ways → to < length town.junctions → found ≡ option_map (λ (way : ℕ × List Step). way.1) (way_to ways to) → found ≡ None → Reaches town from to → ⊥
way_is_there town from to ways found are small is none reach = none_by town from to (way_to ways to) (are.shortest to small) (sym is ∙ none) reach

-- ---- rounds go on

pub from_here : (town : Town) (r : Round) (to : ℕ) → IsRound town r → AreStronglyConnected town r.base to → Reaches town r.at to
from_here town r to round strong = reach_join town r.at r.base to round.strong.1 strong.0

pub goes_on_by : (town : Town) (old new : Round) (more : List Step) → IsRound town old → new.base ≡ old.base → new.steps.items ≡ old.steps.items ++ more → leads town old.at more new.at ≡ true → new.at < length town.junctions → AreStronglyConnected town old.base new.at → GoesOn town old new
goes_on_by town old new more round base steps leads_on there strong = record {
  round = record {
    goes = subst (λ b. leads town b new.steps.items new.at ≡ true) (sym base) (subst (λ (xs : List Step). leads town old.base xs new.at ≡ true) (sym steps) (leads-join town old.base old.steps.items more old.at new.at round.goes leads_on));
    base = omega (arith, base, round.base);
    there = there;
    strong = subst (λ b. AreStronglyConnected town b new.at) (sym base) strong;
  };
  base = base;
  kept = λ demand s. ap (λ (xs : List Step). serves xs demand) steps ∙ serves-append old.steps.items more demand ∙ or_left (serves old.steps.items demand) (serves more demand) s;
}

pub goes_on_still : (town : Town) (one two three : Round) → GoesOn town one two → GoesOn town two three → GoesOn town one three
goes_on_still town one two three a b = record { round = b.round; base = b.base ∙ a.base; kept = λ demand s. b.kept demand (a.kept demand s) }

pub goes_on_same : (town : Town) (r : Round) → IsRound town r → GoesOn town r r
goes_on_same town r round = record { round = round; base = refl; kept = λ demand s. s }

-- one step more, along an arc
pub driven_on : (town : Town) (arc : ℕ) (old mid new : Round) (step : Step) → GoesOn town old mid → mid.at ≡ tail_of town arc → IsNear town old.base arc → step ≡ step_along arc → new.base ≡ mid.base → new.steps.items ≡ mid.steps.items ++ step ∷ [] → new.at ≡ head_of town arc → GoesOn town old new
driven_on town arc old mid new step on at near is base steps head =
    let below = legal_below town arc near.legal in
    goes_on_still town old mid new on
    (goes_on_by town mid new (step ∷ []) on.round base steps
    (subst (λ s. leads town mid.at (s ∷ []) new.at ≡ true) (sym is) (subst (λ i. leads town i (step_along arc ∷ []) new.at ≡ true) (sym at) (subst (λ j. leads town (tail_of town arc) (step_along arc ∷ []) j ≡ true) (sym head) (reach_arc_step town arc near.legal))))
    (omega (arith, head, head_of-below town arc below))
    (subst (λ j. AreStronglyConnected town mid.base j) (sym head) (subst (λ b. AreStronglyConnected town b (head_of town arc)) (sym on.base) near.head)))

pub driven_serves : (arc : ℕ) (mid new : List Step) (step : Step) (demand : List ℕ) → step ≡ step_along arc → new ≡ mid ++ step ∷ [] → Contains demand arc → serves new demand ≡ true
driven_serves arc mid new step demand is steps inside =
    let drives : has_arc demand (arc_of step) ≡ true = any_from_member (nat_eq (arc_of step)) demand arc inside (eq-eqb (arc_of step) arc (ap arc_of is ∙ arc_of-step_along arc)) in
    ap (λ (xs : List Step). serves xs demand) steps ∙ serves-append mid (step ∷ []) demand ∙ or_right (serves mid demand) (serves (step ∷ []) demand) (any_from_member (λ s. has_arc demand (arc_of s)) (step ∷ []) step (inside_head step []) drives)

-- ---- demands of a street

-- an arc within the part can be driven
pub near_by : (town : Town) (part : List ℕ) (base arc : ℕ) → IsHome town part base → (is_legal town arc && lies_within town part arc) ≡ true → IsNear town base arc
near_by town part base arc home is =
    let both = and_parts (is_legal town arc) (lies_within town part arc) is in
    let ends = and_parts (is_in part (tail_of town arc)) (is_in part (head_of town arc)) both.1 in
    record { legal = both.0; tail = home (tail_of town arc) ends.0; head = home (head_of town arc) ends.1 }

one_holds : (b : Bool) → (b || false) ≡ true → b ≡ true
one_holds true is = refl
one_holds false is = absurd (false≢true is)

other_holds : (a b : Bool) → (a || (b || false)) ≡ true → a ≡ false → b ≡ true
other_holds true b is none = absurd (true≢false none)
other_holds false b is none = one_holds b is

pub near_one : (town : Town) (part : List ℕ) (base arc : ℕ) → IsHome town part base → is_held town part (arc ∷ []) ≡ true → IsNear town base arc
near_one town part base arc home held = near_by town part base arc home (one_holds (is_legal town arc && lies_within town part arc) held)

pub near_other : (town : Town) (part : List ℕ) (base first second : ℕ) → IsHome town part base → is_held town part (first ∷ second ∷ []) ≡ true → (is_legal town first && lies_within town part first) ≡ false → IsNear town base second
near_other town part base first second home held none =
    near_by town part base second home (other_holds (is_legal town first && lies_within town part first) (is_legal town second && lies_within town part second) held none)

pub single_served : (steps : List Step) (demand other : List ℕ) → Contains (demand ∷ []) other → serves steps demand ≡ true → serves steps other ≡ true
single_served steps demand other inside s = inside_cases (serves steps other ≡ true) demand [] other inside (λ same. subst (λ d. serves steps d ≡ true) same s) (λ none. absurd (inside_none other none))

pub both_served : (steps : List Step) (first second other : List ℕ) → Contains (first ∷ second ∷ []) other → serves steps first ≡ true → serves steps second ≡ true → serves steps other ≡ true
both_served steps first second other inside s t = inside_cases (serves steps other ≡ true) first (second ∷ []) other inside (λ same. subst (λ d. serves steps d ≡ true) same s) (λ rest. single_served steps second other rest t)

-- ---- all streets

-- each demand is served, or one of the streets that are left
pub record IsServing (town : Town) (old new : Round) (s : ℕ) : Type 0 where
  pub on : GoesOn town old new
  pub served : (demand : List ℕ) → Contains (demands town) demand → (serves new.steps.items demand ≡ true) ⊎ Contains (demands_from s (drop s town.streets)) demand
  pub left : (demand : List ℕ) → Contains (demands_from s (drop s town.streets)) demand → Contains (demands town) demand

pub serving_begins : (town : Town) (r : Round) → IsRound town r → IsServing town r r 0
serving_begins town r round = record { on = goes_on_same town r round; served = λ demand inside. inr inside; left = λ demand inside. inside }

pub serving_more : (town : Town) (old mid new : Round) (s : ℕ) (need : Need) → IsServing town old mid s → GoesOn town mid new → demands_from s (drop s town.streets) ≡ demands_at s need ++ demands_from (s + 1) (drop (s + 1) town.streets) → ServesStreet new s need → IsServing town old new (s + 1)
serving_more town old mid new s need before on split street = record {
  on = goes_on_still town old mid new before.on on;
  served = λ demand inside. elim (before.served demand inside) [
    | inl had ↦ inl (on.kept demand had)
    | inr left ↦ elim (Contains-append_cases (demands_at s need) (demands_from (s + 1) (drop (s + 1) town.streets)) demand (subst (λ ds. Contains ds demand) split left)) [
      | inl here ↦ inl (street demand here)
      | inr later ↦ inr later
    ]
  ];
  left = λ demand inside. before.left demand (subst (λ ds. Contains ds demand) (sym split) (Contains-append_right (demands_at s need) (demands_from (s + 1) (drop (s + 1) town.streets)) demand inside));
}

-- the demands of the next street are held
pub held_next : (town : Town) (part : List ℕ) (old mid : Round) (s : ℕ) (need : Need) → IsJoined town part → IsServing town old mid s → demands_from s (drop s town.streets) ≡ demands_at s need ++ demands_from (s + 1) (drop (s + 1) town.streets) → AreHeld town part s need
held_next town part old mid s need joined is split = λ demand inside.
    member_passes (is_held town part) (demands town) demand joined.held
    (is.left demand (subst (λ ds. Contains ds demand) (sym split) (Contains-append_left (demands_at s need) (demands_from (s + 1) (drop (s + 1) town.streets)) demand inside)))

pub serving_ends : (town : Town) (old new : Round) (s : ℕ) → IsServing town old new s → demands_from s (drop s town.streets) ≡ [] → (demand : List ℕ) → Contains (demands town) demand → serves new.steps.items demand ≡ true
serving_ends town old new s is none demand inside = elim (is.served demand inside) [
  | inl had ↦ had
  | inr left ↦ absurd (inside_none demand (subst (λ ds. Contains ds demand) none left))
]

-- ---- the part

-- what is in the part is strongly connected with its first junction
member_of : (part : List ℕ) (j : ℕ) → is_in part j ≡ true → Contains part j
member_of part j is = let m = member_from_any (nat_eq j) part is in subst (λ k. Contains part k) (sym (eqb-true j m.0 m.2)) m.1

in_component : (town : Town) (part : List ℕ) (c : IsComponent town part) (j : ℕ) → Contains part j → (j < length town.junctions) × AreStronglyConnected town c.base j
in_component town part c j inside =
    let there : Contains (filter c.is_inside (junctions town)) j = subst (λ (xs : List ℕ). Contains xs j) c.all inside in
    let passes = All-contains (λ k. c.is_inside k ≡ true) (filter c.is_inside (junctions town)) j (filter_passes c.is_inside (junctions town)) there in
    let small = All-contains (λ k. k < length town.junctions) (filter c.is_inside (junctions town)) j (All-filter c.is_inside (λ k. k < length town.junctions) (junctions town) (all_small (length town.junctions))) there in
    (small, (c.inside j small).0 passes)
  where
    all_small : (n : ℕ) → All (λ k. k < n) (range_with_len 0 n)
    all_small n k d inside = let below : k < n = omega (arith, length-range_with_len 0 n) in omega (arith, get_or-range_with_len 0 n k d below)

pub home_of : (town : Town) (part : List ℕ) (base : ℕ) → IsComponent town part → Contains part base → IsHome town part base
home_of town part base c inside = λ j is.
    let here = (in_component town part c base inside).1 in
    let there = (in_component town part c j (member_of part j is)).1 in
    (reach_join town base c.base j here.1 there.0, reach_join town j c.base base there.1 here.0)

pub base_below : (town : Town) (part : List ℕ) (base : ℕ) → IsComponent town part → Contains part base → base < length town.junctions
base_below town part base c inside = (in_component town part c base inside).0

-- a part that isn't empty is a component, and an empty one means no demand
pub component_of : (town : Town) (part : List ℕ) → IsJoined town part → 0 < length part → IsComponent town part
component_of town part j some = elim (cases_lt 0 (length (demands town))) [
  | inl demands ↦ j.component demands
  | inr none ↦ absurd (omega (arith, ap length (j.none (omega arith))))
]

nothing_held : (town : Town) (ds : List (List ℕ)) → list_all (is_held town []) ds ≡ true → (d : List ℕ) → Contains ds d → ⊥
nothing_held town ds held d inside =
    let m = member_from_any (λ arc. is_legal town arc && lies_within town [] arc) d (member_passes (is_held town []) ds d held inside) in
    false≢true ((and_parts (is_in [] (tail_of town m.0)) (is_in [] (head_of town m.0)) (and_parts (is_legal town m.0) (lies_within town [] m.0) m.2).1).0)

pub tour_without : (town : Town) (part : List ℕ) (steps : List Step) → IsJoined town part → part ≡ [] → steps ≡ [] → is_tour town steps ≡ true
tour_without town part steps j none empty =
    subst (λ (xs : List Step). is_tour town xs ≡ true) (sym empty)
    (tour_from town [] refl (all_from_members (serves []) (demands town) (λ d inside. absurd (nothing_held town (demands town) (subst (λ (p : List ℕ). list_all (is_held town p) (demands town) ≡ true) none j.held) d inside))))

pub round_begins : (town : Town) (r : Round) (base : ℕ) → r.base ≡ base → r.at ≡ base → r.steps.items ≡ [] → base < length town.junctions → IsRound town r
round_begins town r base begins at steps below = record {
  goes = subst (λ (xs : List Step). leads town r.base xs r.at ≡ true) (sym steps) (eq-eqb r.base r.at (begins ∙ sym at));
  base = omega (arith, begins, below);
  there = omega (arith, at, below);
  strong = (reach_none town r.base r.at (begins ∙ sym at), reach_none town r.at r.base (at ∙ sym begins));
}

pub tour_closed_by : (town : Town) (served last : Round) (steps : List Step) → GoesOn town served last → last.at ≡ last.base → steps ≡ last.steps.items → ((demand : List ℕ) → Contains (demands town) demand → serves served.steps.items demand ≡ true) → is_tour town steps ≡ true
tour_closed_by town served last steps on back is all =
    subst (λ (xs : List Step). is_tour town xs ≡ true) (sym is)
    (tour_from town last.steps.items (closed-from_leads town last.base last.steps.items (subst (λ j. leads town last.base last.steps.items j ≡ true) back on.round.goes)) (all_from_members (serves last.steps.items) (demands town) (λ d inside. on.kept d (all d inside))))
