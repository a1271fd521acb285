-- Laws of service: a demand is served where the count of one of its arcs is above 0.
use Rattle.std.proofs.Common.{◌≡◌, ℕ, suc, zero, ◌+◌, ◌*◌, ◌/◌, ◌<◌, ◌≤◌, Bool, true, cond, ◌==◌, List, [], ◌∷◌, length, Contains, ap, refl, sym, subst, inl, inr, arith, eq-eqb}
use Rattle.std.specs.Prelude.{nat_eq}
use Rattle.std.specs.List.{list_all, list_any}
use Rattle.std.proofs.lemmas.Bool.{and_parts, and_from, or_cases, eqb-true, false≢true, cases_Bool}
use Rattle.std.proofs.lemmas.List.Elements.{Contains-append_cases}
use Rattle.std.proofs.lemmas.List.Folds.{list_any_at}
use Rattle.wrp_town.specs.declared.street.Need.{Need}
use Rattle.wrp_town.specs.declared.street.Need.TheVariants.{No, Either, Forward, Backward, Both}
use Rattle.wrp_town.specs.declared.street.Street.{Street}
use Rattle.wrp_town.specs.declared.street.Step.{Step}
use Rattle.wrp_town.specs.declared.town.Town.{Town}
use Rattle.wrp_town.specs.Streets.{demands_at, demands_from}
use Rattle.wrp_town.specs.Arcs.{is_legal, arc_of, demands, has_arc}
use Rattle.wrp_town.specs.Walks.{serves, serves_all, is_tour, count_of}
use Rattle.wrp_town.proofs.Members.{inside_head, inside_tail, inside_cases, inside_none, member_from_any, member_passes}
use Rattle.wrp_town.proofs.WalkLaws.{are_legal, count_of-cons, tour_serves}

-- ---- arcs of a demand

pub member_from_has_arc : (demand : List ℕ) (arc : ℕ) → has_arc demand arc ≡ true → Contains demand arc
member_from_has_arc demand arc has =
    let m = member_from_any (nat_eq arc) demand has in
    subst (λ a. Contains demand a) (sym (eqb-true arc m.0 m.2)) m.1

-- ---- counts

-- an arc that a step drives is counted, and an arc that is counted is driven by a step
pub counted_from_step : (steps : List Step) (step : Step) → Contains steps step → 0 < count_of steps (arc_of step)
counted_from_step [] step inside = absurd (inside_none step inside)
counted_from_step (first ∷ steps) step inside =
    inside_cases (0 < count_of (first ∷ steps) (arc_of step)) first steps step inside
    (λ same. omega (arith, count_of-cons first steps (arc_of step), ap (λ (b : Bool). cond {A = ℕ} b 1 0) (eq-eqb (arc_of first) (arc_of step) (ap arc_of same))))
    (λ other. omega (arith, count_of-cons first steps (arc_of step), counted_from_step steps step other))

pub step_from_counted : (steps : List Step) (arc : ℕ) → 0 < count_of steps arc → (step : Step) × (Contains steps step) × (arc_of step ≡ arc)
step_from_counted [] arc counted = absurd (omega arith)
step_from_counted (first ∷ steps) arc counted =
    elim (cases_Bool (arc_of first == arc)) [
      | inl here ↦ (first, inside_head first steps, eqb-true (arc_of first) arc here)
      | inr elsewhere ↦ (let m = step_from_counted steps arc (omega (arith, count_of-cons first steps arc, ap (λ (b : Bool). cond {A = ℕ} b 1 0) elsewhere)) in (m.0, inside_tail first steps m.0 m.1, m.2))
    ]

-- steps that are legal use no illegal arc
pub counted_is_legal : (town : Town) (steps : List Step) (arc : ℕ) → are_legal town steps ≡ true → 0 < count_of steps arc → is_legal town arc ≡ true
counted_is_legal town steps arc legal counted =
    let m = step_from_counted steps arc counted in
    subst (λ a. is_legal town a ≡ true) m.2 (member_passes (λ step. is_legal town (arc_of step)) steps m.0 legal m.1)

-- ---- service

-- a demand is served exactly where one of its arcs is counted
pub served_arc : (steps : List Step) (demand : List ℕ) → serves steps demand ≡ true → (arc : ℕ) × (Contains demand arc) × (0 < count_of steps arc)
served_arc steps demand served =
    let m = member_from_any (λ step. has_arc demand (arc_of step)) steps served in
    (arc_of m.0, member_from_has_arc demand (arc_of m.0) m.2, counted_from_step steps m.0 m.1)

-- ---- the arcs of demands

one_member : {X : Type 0} (x y : X) → Contains (x ∷ []) y → x ≡ y
one_member x y inside = inside_cases (x ≡ y) x [] y inside (λ same. same) (λ other. absurd (inside_none y other))

forward_street : (s arc : ℕ) → Contains (2 * s ∷ []) arc → arc / 2 ≡ s
forward_street s arc inside = let same = one_member (2 * s) arc inside in omega arith

backward_street : (s arc : ℕ) → Contains ((2 * s + 1) ∷ []) arc → arc / 2 ≡ s
backward_street s arc inside = let same = one_member (2 * s + 1) arc inside in omega arith

either_street : (s arc : ℕ) → Contains (2 * s ∷ (2 * s + 1) ∷ []) arc → arc / 2 ≡ s
either_street s arc inside =
    inside_cases (arc / 2 ≡ s) (2 * s) ((2 * s + 1) ∷ []) arc inside (λ same. omega arith) (λ other. backward_street s arc other)

-- the arcs of the demands of a street are its own
pub demand_arc_street : (s : ℕ) (need : Need) (demand : List ℕ) (arc : ℕ) → Contains (demands_at s need) demand → Contains demand arc → arc / 2 ≡ s
demand_arc_street s No demand arc inside has = absurd (inside_none demand inside)
demand_arc_street s Either demand arc inside has = either_street s arc (subst (λ d. Contains d arc) (sym (one_member _ demand inside)) has)
demand_arc_street s Forward demand arc inside has = forward_street s arc (subst (λ d. Contains d arc) (sym (one_member _ demand inside)) has)
demand_arc_street s Backward demand arc inside has = backward_street s arc (subst (λ d. Contains d arc) (sym (one_member _ demand inside)) has)
demand_arc_street s Both demand arc inside has =
    inside_cases (arc / 2 ≡ s) (2 * s ∷ []) (((2 * s + 1) ∷ []) ∷ []) demand inside
    (λ same. forward_street s arc (subst (λ d. Contains d arc) (sym same) has))
    (λ other. backward_street s arc (subst (λ d. Contains d arc) (sym (one_member _ demand other)) has))

-- the arcs of the demands of streets that are numbered from s on are those of these streets
pub demand_arc_from : (s : ℕ) (streets : List Street) (demand : List ℕ) (arc : ℕ) → Contains (demands_from s streets) demand → Contains demand arc → (s ≤ arc / 2) × (arc / 2 < s + length streets)
demand_arc_from s [] demand arc inside has = absurd (inside_none demand inside)
demand_arc_from s (street ∷ streets) demand arc inside has =
    elim (Contains-append_cases (demands_at s street.need) (demands_from (s + 1) streets) demand inside) [
      | inl first ↦ (let own = demand_arc_street s street.need demand arc first has in (omega arith, omega arith))
      | inr other ↦ (let below = demand_arc_from (s + 1) streets demand arc other has in (omega arith, omega arith))
    ]
