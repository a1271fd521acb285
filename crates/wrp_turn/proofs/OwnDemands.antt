-- The demands of the turn town, and of the streets behind its arcs.
use Rattle.std.proofs.Common.{◌≡◌, ℕ, zero, suc, ◌+◌, ◌*◌, ◌/◌, ◌%◌, ◌<◌, Bool, true, false, cond, ◌==◌, ◌&&◌, not, List, [], ◌∷◌, map, length, Some, is_some, Contains, ap, refl, sym, ◌∙◌, subst, inl, inr, arith, eq-eqb}
use Rattle.std.specs.Prelude.{slice_get}
use Rattle.std.proofs.lemmas.Bool.{and_from, ne_eqb, not-true, false≢true}
use Rattle.std.proofs.lemmas.List.Elements.{Contains-append_left, Contains-append_right, Contains-append_cases}
use Rattle.std.proofs.lemmas.Option.{none-some, same_Some}
use Rattle.wrp_town.specs.declared.street.Need.{Need}
use Rattle.wrp_town.specs.declared.street.Need.TheVariants.{No, Either, Forward, Backward, Both}
use Rattle.wrp_town.specs.declared.street.Street.{Street}
use Rattle.wrp_town.specs.declared.town.Town.{Town}
use Rattle.wrp_town.specs.Streets.{demands_at, demands_from}
use Rattle.wrp_town.specs.Arcs.{is_legal, demands, has_arc}
use Rattle.wrp_town.proofs.TownLaws.{list_all-slice_get}
use Rattle.wrp_town.proofs.Members.{inside_head, inside_cases, inside_none, any_from_member}
use Rattle.wrp_town.proofs.ServiceLaws.{demand_arc_from}
use Rattle.wrp_turn.specs.TurnTowns.{is_first_of, is_demanded, arc_street, turn_street, is_either, has_choice, can_turn}
use Rattle.wrp_town_laws.proofs.Demands.{either_arcs}
use Rattle.wrp_town_laws.proofs.OneWay.{cost_of-at}

pub has_arc-from_member : (demand : List ℕ) (arc : ℕ) → Contains demand arc → has_arc demand arc ≡ true
has_arc-from_member demand arc inside = any_from_member (λ other. arc == other) demand arc inside (eq-eqb arc arc refl)

pub demand_arc_below : (town : Town) (demand : List ℕ) (arc : ℕ) → Contains (demands town) demand → Contains demand arc → arc < 2 * length town.streets
demand_arc_below town demand arc inside has = let below = demand_arc_from 0 town.streets demand arc inside has in omega (arith, below.1)

one_member : {X : Type 0} (x y : X) → Contains (x ∷ []) y → x ≡ y
one_member x y inside = inside_cases (x ≡ y) x [] y inside (λ same. same) (λ other. absurd (inside_none y other))

-- a demand is that of a street
pub record DemandAt (s : ℕ) (streets : List Street) (demand : List ℕ) : Type 0 where
  pub k : ℕ
  pub street : Street
  pub place : slice_get streets k ≡ Some street
  pub inside : Contains (demands_at (s + k) street.need) demand

pub demand_at : (s : ℕ) (streets : List Street) (demand : List ℕ) → Contains (demands_from s streets) demand → DemandAt s streets demand
demand_at s [] demand inside = absurd (inside_none demand inside)
demand_at s (street ∷ streets) demand inside =
    elim (Contains-append_cases (demands_at s street.need) (demands_from (s + 1) streets) demand inside) [
      | inl here ↦ record { k = 0; street = street; place = refl; inside = (let same : s ≡ s + 0 = omega arith in subst (λ t. Contains (demands_at t street.need) demand) same here) }
      | inr there ↦ (let r = demand_at (s + 1) streets demand there in
          let same : (s + 1) + r.k ≡ s + suc r.k = omega arith in
          record { k = suc r.k; street = r.street; place = r.place; inside = subst (λ t. Contains (demands_at t r.street.need) demand) same r.inside })
    ]

first_by : (demand : List ℕ) (first : ℕ) (others : List ℕ) → (first ∷ others) ≡ demand → (f : ℕ) × (is_first_of f demand ≡ true) × (Contains demand f)
first_by demand first others same = (first, subst (λ d. is_first_of first d ≡ true) same (eq-eqb first first refl), subst (λ d. Contains d first) same (inside_head first others))

pub demand_first : (s : ℕ) (need : Need) (demand : List ℕ) → Contains (demands_at s need) demand → (f : ℕ) × (is_first_of f demand ≡ true) × (Contains demand f)
demand_first s No demand inside = absurd (inside_none demand inside)
demand_first s Either demand inside = first_by demand (2 * s) ((2 * s + 1) ∷ []) (one_member (either_arcs s) demand inside)
demand_first s Forward demand inside = first_by demand (2 * s) [] (one_member (2 * s ∷ []) demand inside)
demand_first s Backward demand inside = first_by demand (2 * s + 1) [] (one_member ((2 * s + 1) ∷ []) demand inside)
demand_first s Both demand inside =
    inside_cases ((f : ℕ) × (is_first_of f demand ≡ true) × (Contains demand f)) (2 * s ∷ []) (((2 * s + 1) ∷ []) ∷ []) demand inside
    (λ same. first_by demand (2 * s) [] same)
    (λ other. first_by demand (2 * s + 1) [] (one_member ((2 * s + 1) ∷ []) demand other))

-- two legal arcs of one demand are the same
single_arc : (arc : ℕ) (demand : List ℕ) (x y : ℕ) → (arc ∷ []) ≡ demand → Contains demand x → Contains demand y → x ≡ y
single_arc arc demand x y same has_x has_y =
    sym (one_member arc x (subst (λ d. Contains d x) (sym same) has_x)) ∙ one_member arc y (subst (λ d. Contains d y) (sym same) has_y)

either_arc : (s : ℕ) (both : Bool) (x y : ℕ) → not both ≡ true → (x ≡ 2 * s → y ≡ 2 * s + 1 → both ≡ true) → (x ≡ 2 * s + 1 → y ≡ 2 * s → both ≡ true) → Contains (either_arcs s) x → Contains (either_arcs s) y → x ≡ y
either_arc s both x y lacks one two has_x has_y =
    inside_cases (x ≡ y) (2 * s) ((2 * s + 1) ∷ []) x has_x
    (λ x_is. inside_cases (x ≡ y) (2 * s) ((2 * s + 1) ∷ []) y has_y (λ y_is. sym x_is ∙ y_is)
    (λ y_other. absurd (false≢true (sym (not-true both lacks) ∙ one (sym x_is) (sym (one_member (2 * s + 1) y y_other))))))
    (λ x_other. inside_cases (x ≡ y) (2 * s) ((2 * s + 1) ∷ []) y has_y
    (λ y_is. absurd (false≢true (sym (not-true both lacks) ∙ two (sym (one_member (2 * s + 1) x x_other)) (sym y_is))))
    (λ y_other. sym (one_member (2 * s + 1) x x_other) ∙ one_member (2 * s + 1) y y_other))

one_way_at : (s : ℕ) (need : Need) (both : Bool) (demand : List ℕ) (x y : ℕ) → not (is_either need && both) ≡ true → (x ≡ 2 * s → y ≡ 2 * s + 1 → both ≡ true) → (x ≡ 2 * s + 1 → y ≡ 2 * s → both ≡ true)
    → Contains (demands_at s need) demand → Contains demand x → Contains demand y → x ≡ y
one_way_at s No both demand x y lacks one two inside has_x has_y = absurd (inside_none demand inside)
one_way_at s Either both demand x y lacks one two inside has_x has_y =
    let same = one_member (either_arcs s) demand inside in
    either_arc s both x y lacks one two (subst (λ d. Contains d x) (sym same) has_x) (subst (λ d. Contains d y) (sym same) has_y)
one_way_at s Forward both demand x y lacks one two inside has_x has_y = single_arc (2 * s) demand x y (one_member (2 * s ∷ []) demand inside) has_x has_y
one_way_at s Backward both demand x y lacks one two inside has_x has_y = single_arc (2 * s + 1) demand x y (one_member ((2 * s + 1) ∷ []) demand inside) has_x has_y
one_way_at s Both both demand x y lacks one two inside has_x has_y =
    inside_cases (x ≡ y) (2 * s ∷ []) (((2 * s + 1) ∷ []) ∷ []) demand inside
    (λ same. single_arc (2 * s) demand x y same has_x has_y)
    (λ other. single_arc (2 * s + 1) demand x y (one_member ((2 * s + 1) ∷ []) demand other) has_x has_y)

forward_legal : (town : Town) (s arc : ℕ) (street : Street) → slice_get town.streets s ≡ Some street → arc ≡ 2 * s → is_legal town arc ≡ true → is_some street.forward ≡ true
forward_legal town s arc street place at legal =
    let half : arc / 2 ≡ s = omega arith in
    let even : (arc % 2 == 0) ≡ true = eq-eqb (arc % 2) 0 (omega arith) in
    sym (ap is_some (cost_of-at town arc street (ap (slice_get town.streets) half ∙ place) ∙ ap (λ b. cond b street.forward street.backward) even)) ∙ legal

backward_legal : (town : Town) (s arc : ℕ) (street : Street) → slice_get town.streets s ≡ Some street → arc ≡ 2 * s + 1 → is_legal town arc ≡ true → is_some street.backward ≡ true
backward_legal town s arc street place at legal =
    let half : arc / 2 ≡ s = omega arith in
    let odd : (arc % 2 == 0) ≡ false = ne_eqb (arc % 2) 0 (λ same. omega arith) in
    sym (ap is_some (cost_of-at town arc street (ap (slice_get town.streets) half ∙ place) ∙ ap (λ b. cond b street.forward street.backward) odd)) ∙ legal

pub one_way : (town : Town) (demand : List ℕ) (x y : ℕ) → can_turn town ≡ true → Contains (demands town) demand → Contains demand x → Contains demand y → is_legal town x ≡ true → is_legal town y ≡ true → x ≡ y
one_way town demand x y can inside has_x has_y legal_x legal_y =
    let d = demand_at 0 town.streets demand inside in
    one_way_at d.k d.street.need (is_some d.street.forward && is_some d.street.backward) demand x y
    (list_all-slice_get (λ street. not (has_choice street)) town.streets d.k d.street can d.place)
    (λ x_is y_is. and_from _ _ (forward_legal town d.k x d.street d.place x_is legal_x) (backward_legal town d.k y d.street d.place y_is legal_y))
    (λ x_is y_is. and_from _ _ (forward_legal town d.k y d.street d.place y_is legal_y) (backward_legal town d.k x d.street d.place x_is legal_x))
    (subst (λ t. Contains (demands_at t d.street.need) demand) (omega arith) d.inside) has_x has_y

-- the demands of arc streets
pub arc_demand : (town : Town) (s : ℕ) (own : List ℕ) (k t b : ℕ) → t ≡ s + k → slice_get own k ≡ Some b → is_demanded town b ≡ true → Contains (demands_from s (map (arc_street town) own)) (either_arcs t)
arc_demand town s [] k t b at place demanded = absurd (none-some b place)
arc_demand town s (x ∷ own) zero t b at place demanded =
    let same : s ≡ t = omega arith in
    Contains-append_left (demands_at s (cond (is_demanded town x) Either No)) (demands_from (s + 1) (map (arc_street town) own)) (either_arcs t)
    (subst (λ w. Contains (demands_at s (cond w Either No)) (either_arcs t)) (sym (ap (is_demanded town) (same_Some x b place) ∙ demanded)) (subst (λ u. Contains (either_arcs s ∷ []) (either_arcs u)) same (inside_head (either_arcs s) [])))
arc_demand town s (x ∷ own) (suc k) t b at place demanded =
    Contains-append_right (demands_at s (cond (is_demanded town x) Either No)) (demands_from (s + 1) (map (arc_street town) own)) (either_arcs t) (arc_demand town (s + 1) own k t b (omega arith) place demanded)

pub record IsArcDemand (town : Town) (s : ℕ) (own demand : List ℕ) : Type 0 where
  pub k : ℕ
  pub b : ℕ
  pub place : slice_get own k ≡ Some b
  pub demanded : is_demanded town b ≡ true
  pub same : demand ≡ either_arcs (s + k)

arc_demand_here : (town : Town) (s x : ℕ) (own demand : List ℕ) (w : Bool) → is_demanded town x ≡ w → Contains (demands_at s (cond w Either No)) demand → IsArcDemand town s (x ∷ own) demand
arc_demand_here town s x own demand true is inside = record { k = 0; b = x; place = refl; demanded = is; same = sym (one_member (either_arcs s) demand inside) ∙ ap either_arcs (omega arith) }
arc_demand_here town s x own demand false is inside = absurd (inside_none demand inside)

pub arc_demand_from : (town : Town) (s : ℕ) (own demand : List ℕ) → Contains (demands_from s (map (arc_street town) own)) demand → IsArcDemand town s own demand
arc_demand_from town s [] demand inside = absurd (inside_none demand inside)
arc_demand_from town s (x ∷ own) demand inside =
    elim (Contains-append_cases (demands_at s (cond (is_demanded town x) Either No)) (demands_from (s + 1) (map (arc_street town) own)) demand inside) [
      | inl here ↦ arc_demand_here town s x own demand (is_demanded town x) refl here
      | inr there ↦ (let r = arc_demand_from town (s + 1) own demand there in record { k = suc r.k; b = r.b; place = r.place; demanded = r.demanded; same = r.same ∙ ap either_arcs (omega arith) })
    ]

pub no_turn_demands : (town : Town) (s : ℕ) (turns : List (ℕ × ℕ)) → demands_from s (map (turn_street town) turns) ≡ []
no_turn_demands town s [] = refl
no_turn_demands town s (turn ∷ turns) = no_turn_demands town (s + 1) turns

pub demanded_from : (town : Town) (demand : List ℕ) (arc : ℕ) → Contains (demands town) demand → Contains demand arc → is_demanded town arc ≡ true
demanded_from town demand arc inside has = any_from_member (λ d. has_arc d arc) (demands town) demand inside (has_arc-from_member demand arc has)
