-- What every town keeps, drawn from its ghost field, and what that says of its arcs.
use Rattle.std.proofs.Common.{◌≡◌, ℕ, suc, zero, ◌+◌, ◌*◌, ◌/◌, ◌%◌, ◌<◌, ◌≤◌, Bool, true, false, cond, ◌==◌, List, [], ◌∷◌, length, Option, Some, None, is_some, ap, refl, sym, ◌∙◌, subst, arith}
use Rattle.std.specs.Prelude.{IfSome, if◌then◌else◌, slice_get}
use Rattle.std.specs.List.{list_all}
use Rattle.std.specs.Option.{unwrap_or}
use Rattle.std.proofs.lemmas.Bool.{and_parts, ltb-true, leb-true, eqb-true, eqb-false, false≢true}
use Rattle.std.proofs.lemmas.Option.{option_and_then_some, slice_get_within, same_Some, none-some}
use Rattle.wrp_town.specs.declared.street.Street.{Street}
use Rattle.wrp_town.specs.declared.street.Step.{Step}
use Rattle.wrp_town.specs.declared.town.Town.{Town}
use Rattle.wrp_town.specs.Limits.{junction_limit, street_limit, demand_limit, cost_limit}
use Rattle.wrp_town.specs.Names.{is_name}
use Rattle.wrp_town.specs.Streets.{is_cost, is_street}
use Rattle.wrp_town.specs.Arcs.{is_forward, street_of, cost_of, tail_of, head_of, is_legal, cost_or_zero, demands, arc_of, step_along}

-- ---- lists and options

pub list_all-slice_get : {X : Type 0} (p : X → Bool) (xs : List X) (i : ℕ) (x : X) → list_all p xs ≡ true → slice_get xs i ≡ Some x → p x ≡ true
list_all-slice_get p [] i x all is = absurd (none-some x is)
list_all-slice_get p (y ∷ xs) zero x all is = subst (λ z. p z ≡ true) (same_Some y x is) (and_parts _ _ all).0
list_all-slice_get p (y ∷ xs) (suc i) x all is = list_all-slice_get p xs i x (and_parts _ _ all).1 is

pub slice_get_inside : {X : Type 0} (xs : List X) (i : ℕ) → i < length xs → (x : X) × (slice_get xs i ≡ Some x)
slice_get_inside [] i below = absurd (omega arith)
slice_get_inside (x ∷ xs) zero below = (x, refl)
slice_get_inside (x ∷ xs) (suc i) below = slice_get_inside xs i (omega arith)

pub some_value : {X : Type 0} (o : Option X) → is_some o ≡ true → (x : X) × (o ≡ Some x)
some_value None is = absurd (false≢true is)
some_value (Some x) is = (x, refl)

unwrap_or-at_most : (o : Option ℕ) (m : ℕ) → ((x : ℕ) → o ≡ Some x → x ≤ m) → unwrap_or o 0 ≤ m
unwrap_or-at_most None m each = omega arith
unwrap_or-at_most (Some x) m each = each x refl

-- ---- the limits

pub few_junctions : (town : Town) → length town.junctions ≤ junction_limit
few_junctions town = town.well_formed.few_junctions

pub few_streets : (town : Town) → length town.streets ≤ street_limit
few_streets town = town.well_formed.few_streets

pub few_demands : (town : Town) → length (demands town) ≤ demand_limit
few_demands town = town.well_formed.few_demands

-- a street with a name, costs in range, and ends among n junctions
pub record IsSound (n : ℕ) (street : Street) : Type 0 where
  pub named : is_name street.name ≡ true
  pub forward : is_cost street.forward ≡ true
  pub backward : is_cost street.backward ≡ true
  pub from : street.from < n
  pub to : street.to < n

pub IsSound-from_is_street : (n : ℕ) (street : Street) → is_street n street ≡ true → IsSound n street
IsSound-from_is_street n street is =
    let a = and_parts _ _ is in
    let b = and_parts _ _ a.0 in
    let c = and_parts _ _ b.0 in
    let d = and_parts _ _ c.0 in
    record { named = d.0; forward = d.1; backward = c.1; from = ltb-true street.from n b.1; to = ltb-true street.to n a.1 }

-- each street of a town is sound
pub sound_street : (town : Town) (s : ℕ) (street : Street) → slice_get town.streets s ≡ Some street → IsSound (length town.junctions) street
sound_street town s street is = IsSound-from_is_street _ street (list_all-slice_get _ town.streets s street town.well_formed.sound is)

-- ---- arcs

-- an arc below twice the number of streets has a street, and others have none
pub street_of_below : (town : Town) (arc : ℕ) → arc < 2 * length town.streets → (street : Street) × (street_of town arc ≡ Some street)
street_of_below town arc below = slice_get_inside town.streets (arc / 2) (omega arith)

pub below_from_street_of : (town : Town) (arc : ℕ) (street : Street) → street_of town arc ≡ Some street → arc < 2 * length town.streets
below_from_street_of town arc street is = omega (arith, slice_get_within town.streets (arc / 2) street is)

is_cost-at_most : (cost : Option ℕ) (c : ℕ) → is_cost cost ≡ true → cost ≡ Some c → c ≤ cost_limit
is_cost-at_most cost c is some = leb-true c cost_limit (subst (λ o. is_cost o ≡ true) some is)

pub IfSome-from_is_cost : (cost : Option ℕ) → is_cost cost ≡ true → IfSome cost (λ c. c ≤ cost_limit)
IfSome-from_is_cost None is = tt
IfSome-from_is_cost (Some c) is = leb-true c cost_limit is

cond-is_cost : (even : Bool) (n : ℕ) (street : Street) → IsSound n street → is_cost (cond even street.forward street.backward) ≡ true
cond-is_cost true n street sound = sound.forward
cond-is_cost false n street sound = sound.backward

-- no cost is above the limit
pub cost_of-at_most : (town : Town) (arc cost : ℕ) → cost_of town arc ≡ Some cost → cost ≤ cost_limit
cost_of-at_most town arc cost is =
    option_and_then_some (λ (street : Street). if is_forward arc then street.forward else street.backward) (street_of town arc) cost is
    (λ street street_is cost_is. is_cost-at_most _ cost (cond-is_cost (is_forward arc) _ street (sound_street town (arc / 2) street street_is)) cost_is)

pub cost_or_zero-at_most : (town : Town) (arc : ℕ) → cost_or_zero town arc ≤ cost_limit
cost_or_zero-at_most town arc = unwrap_or-at_most (cost_of town arc) cost_limit (cost_of-at_most town arc)

-- a legal arc is below twice the number of streets, and has its cost
pub legal_cost : (town : Town) (arc : ℕ) → is_legal town arc ≡ true → cost_of town arc ≡ Some (cost_or_zero town arc)
legal_cost town arc legal = let c = some_value (cost_of town arc) legal in c.1 ∙ ap (λ (o : Option ℕ). Some (unwrap_or o 0)) (sym c.1)

pub legal_below : (town : Town) (arc : ℕ) → is_legal town arc ≡ true → arc < 2 * length town.streets
legal_below town arc legal =
    option_and_then_some (λ (street : Street). if is_forward arc then street.forward else street.backward) (street_of town arc) (cost_or_zero town arc) (legal_cost town arc legal)
    (λ street street_is cost_is. below_from_street_of town arc street street_is)

pub tail_of-at : (town : Town) (arc : ℕ) (street : Street) → street_of town arc ≡ Some street → tail_of town arc ≡ (if is_forward arc then street.from else street.to)
tail_of-at town arc street is = rw is refl

pub head_of-at : (town : Town) (arc : ℕ) (street : Street) → street_of town arc ≡ Some street → head_of town arc ≡ (if is_forward arc then street.to else street.from)
head_of-at town arc street is = rw is refl

cond-below : (even : Bool) (a b n : ℕ) → a < n → b < n → cond even a b < n
cond-below true a b n first second = first
cond-below false a b n first second = second

-- both ends of an arc are junctions
pub tail_of-below : (town : Town) (arc : ℕ) → arc < 2 * length town.streets → tail_of town arc < length town.junctions
tail_of-below town arc below =
    let s = street_of_below town arc below in
    let sound = sound_street town (arc / 2) s.0 s.1 in
    rw (tail_of-at town arc s.0 s.1) (cond-below (is_forward arc) s.0.from s.0.to _ sound.from sound.to)

pub head_of-below : (town : Town) (arc : ℕ) → arc < 2 * length town.streets → head_of town arc < length town.junctions
head_of-below town arc below =
    let s = street_of_below town arc below in
    let sound = sound_street town (arc / 2) s.0 s.1 in
    rw (head_of-at town arc s.0 s.1) (cond-below (is_forward arc) s.0.to s.0.from _ sound.to sound.from)

-- ---- the arcs of a street, and of a step

arc-half : (s : ℕ) (back : Bool) → (2 * s + cond back 1 0) / 2 ≡ s
arc-half s true = omega arith
arc-half s false = omega arith

pub arc_of-half : (step : Step) → arc_of step / 2 ≡ step.street
arc_of-half step = arc-half step.street step.back

-- a legal step names a street
pub legal_step_below : (town : Town) (step : Step) → is_legal town (arc_of step) ≡ true → step.street < length town.streets
legal_step_below town step legal = omega (arith, legal_below town (arc_of step) legal, arc_of-half step)

-- ---- the step along an arc

half_and_rest : (arc : ℕ) (odd : Bool) → (arc % 2 == 1) ≡ odd → 2 * (arc / 2) + cond odd 1 0 ≡ arc
half_and_rest arc true is = omega (arith, eqb-true (arc % 2) 1 is)
half_and_rest arc false is = omega (arith, eqb-false (arc % 2) 1 is)

pub arc_of-step_along : (arc : ℕ) → arc_of (step_along arc) ≡ arc
arc_of-step_along arc = half_and_rest arc (arc % 2 == 1) refl
