-- Which demands an arc is in, and which are never served, read off the need of its street.
use Rattle.std.proofs.Common.{◌≡◌, ℕ, ◌+◌, ◌*◌, ◌/◌, ◌%◌, Bool, true, false, cond, ◌==◌, ◌&&◌, ◌||◌, not, List, [], ◌∷◌, Option, None, Some, Contains, ap, refl, sym, ◌∙◌, subst, arith, eq-eqb}
use Rattle.std.specs.List.{list_any}
use Rattle.std.specs.Option.{option_map}
use Rattle.std.proofs.lemmas.Option.{none-some, same_Some}
use Rattle.std.proofs.lemmas.Bool.{and_parts, eqb-true, eqb-false, ne_eqb, false≢true}
use Rattle.wrp_town.specs.declared.street.Need.{Need}
use Rattle.wrp_town.specs.declared.street.Need.TheVariants.{No, Either, Forward, Backward, Both}
use Rattle.wrp_town.specs.declared.street.Street.{Street}
use Rattle.wrp_town.specs.declared.town.Town.{Town}
use Rattle.wrp_town.specs.Streets.{demands_at}
use Rattle.wrp_town.specs.Arcs.{has_arc, is_legal, street_of}
use Rattle.wrp_town.proofs.Members.{inside_head}
use Rattle.wrp_town.proofs.ServiceLaws.{member_from_has_arc}
use Rattle.wrp_turn.specs.TurnTowns.{is_first_of, is_unservable, is_demanded}
use Rattle.wrp_turn.specs.Needs.{is_needed, is_lost}
use Rattle.wrp_turn.proofs.Stars.{own_demands}

first_inside : (arc : ℕ) (demand : List ℕ) → is_first_of arc demand ≡ true → Contains demand arc
first_inside arc [] is = absurd (false≢true is)
first_inside arc (first ∷ others) is = subst (λ x. Contains (first ∷ others) x) (eqb-true first arc is) (inside_head first others)

module _ (town : Town) (arc : ℕ) where
  -- an arc is the forward arc of its street, or the backward one
  forward_is : (arc % 2 == 0) ≡ true → 2 * (arc / 2) ≡ arc
  forward_is even = let e = eqb-true (arc % 2) 0 even in omega arith

  backward_is : (arc % 2 == 0) ≡ false → 2 * (arc / 2) + 1 ≡ arc
  backward_is odd = let e = eqb-false (arc % 2) 0 odd in omega arith

  at_forward : (arc % 2 == 0) ≡ true → (arc == 2 * (arc / 2)) ≡ true
  at_forward even = eq-eqb arc (2 * (arc / 2)) (sym (forward_is even))

  off_forward : (arc % 2 == 0) ≡ false → (arc == 2 * (arc / 2)) ≡ false
  off_forward odd = ne_eqb arc (2 * (arc / 2)) (λ same. let is = backward_is odd in omega arith)

  at_backward : (arc % 2 == 0) ≡ false → (arc == 2 * (arc / 2) + 1) ≡ true
  at_backward odd = eq-eqb arc (2 * (arc / 2) + 1) (sym (backward_is odd))

  off_backward : (arc % 2 == 0) ≡ true → (arc == 2 * (arc / 2) + 1) ≡ false
  off_backward even = ne_eqb arc (2 * (arc / 2) + 1) (λ same. let is = forward_is even in omega arith)

  demand_by : (need : Need) (forward : Bool) → (arc % 2 == 0) ≡ forward → list_any (λ demand. has_arc demand arc) (demands_at (arc / 2) need) ≡ is_needed need forward
  demand_by No forward is = refl
  demand_by Either true is = ap (λ a. (a || ((arc == 2 * (arc / 2) + 1) || false)) || false) (at_forward is)
  demand_by Either false is = ap (λ a. (a || ((arc == 2 * (arc / 2) + 1) || false)) || false) (off_forward is) ∙ ap (λ b. (false || (b || false)) || false) (at_backward is)
  demand_by Forward true is = ap (λ a. (a || false) || false) (at_forward is)
  demand_by Forward false is = ap (λ a. (a || false) || false) (off_forward is)
  demand_by Backward true is = ap (λ b. (b || false) || false) (off_backward is)
  demand_by Backward false is = ap (λ b. (b || false) || false) (at_backward is)
  demand_by Both true is = ap (λ a. (a || false) || (((arc == 2 * (arc / 2) + 1) || false) || false)) (at_forward is)
  demand_by Both false is = ap (λ a. (a || false) || (((arc == 2 * (arc / 2) + 1) || false) || false)) (off_forward is) ∙ ap (λ b. (false || false) || ((b || false) || false)) (at_backward is)

  first_at : (arc % 2 == 0) ≡ true → (2 * (arc / 2) == arc) ≡ true
  first_at even = eq-eqb (2 * (arc / 2)) arc (forward_is even)

  first_off : (arc % 2 == 0) ≡ false → (2 * (arc / 2) == arc) ≡ false
  first_off odd = ne_eqb (2 * (arc / 2)) arc (λ same. let is = backward_is odd in omega arith)

  second_at : (arc % 2 == 0) ≡ false → (2 * (arc / 2) + 1 == arc) ≡ true
  second_at odd = eq-eqb (2 * (arc / 2) + 1) arc (backward_is odd)

  second_off : (arc % 2 == 0) ≡ true → (2 * (arc / 2) + 1 == arc) ≡ false
  second_off even = ne_eqb (2 * (arc / 2) + 1) arc (λ same. let is = forward_is even in omega arith)

  alone : (w a : Bool) → (b : Bool) → w ≡ b → ((w && not (a || false)) || false) ≡ (b && not a)
  alone w true b is = ap (λ v. (v && false) || false) is ∙ off b
    where
      off : (b : Bool) → ((b && false) || false) ≡ (b && false)
      off true = refl
      off false = refl
  alone w false b is = ap (λ v. (v && true) || false) is ∙ on b
    where
      on : (b : Bool) → ((b && true) || false) ≡ (b && true)
      on true = refl
      on false = refl

  pair : (w a c : Bool) → (b : Bool) → w ≡ b → ((w && not (a || (c || false))) || false) ≡ (b && (not a && not c))
  pair w a c b is = ap (λ v. (v && not (a || (c || false))) || false) is ∙ by b a c
    where
      by : (b a c : Bool) → ((b && not (a || (c || false))) || false) ≡ (b && (not a && not c))
      by false a c = refl
      by true true c = refl
      by true false true = refl
      by true false false = refl

  two : (w v a c : Bool) → (b : Bool) → w ≡ b → v ≡ not b → ((w && not (a || false)) || ((v && not (c || false)) || false)) ≡ cond b (not a) (not c)
  two w v a c b one other = ap (λ u. (u && not (a || false)) || ((v && not (c || false)) || false)) one ∙ ap (λ u. (b && not (a || false)) || ((u && not (c || false)) || false)) other ∙ by b a c
    where
      by : (b a c : Bool) → ((b && not (a || false)) || ((not b && not (c || false)) || false)) ≡ cond b (not a) (not c)
      by true true c = refl
      by true false c = refl
      by false a true = refl
      by false a false = refl

  first_is : (forward : Bool) → (arc % 2 == 0) ≡ forward → (2 * (arc / 2) == arc) ≡ forward
  first_is true is = first_at is
  first_is false is = first_off is

  second_is : (forward : Bool) → (arc % 2 == 0) ≡ forward → (2 * (arc / 2) + 1 == arc) ≡ not forward
  second_is true is = second_off is
  second_is false is = second_at is

  lost_by : (need : Need) (forward : Bool) → (arc % 2 == 0) ≡ forward
      → list_any (λ demand. is_first_of arc demand && not (list_any (is_legal town) demand)) (demands_at (arc / 2) need)
      ≡ is_lost need forward (not (is_legal town (2 * (arc / 2)))) (not (is_legal town (2 * (arc / 2) + 1)))
  lost_by No forward is = refl
  lost_by Either forward is = pair (2 * (arc / 2) == arc) (is_legal town (2 * (arc / 2))) (is_legal town (2 * (arc / 2) + 1)) forward (first_is forward is)
  lost_by Forward forward is = alone (2 * (arc / 2) == arc) (is_legal town (2 * (arc / 2))) forward (first_is forward is)
  lost_by Backward forward is = alone (2 * (arc / 2) + 1 == arc) (is_legal town (2 * (arc / 2) + 1)) (not forward) (second_is forward is)
  lost_by Both forward is = two (2 * (arc / 2) == arc) (2 * (arc / 2) + 1 == arc) (is_legal town (2 * (arc / 2))) (is_legal town (2 * (arc / 2) + 1)) forward (first_is forward is) (second_is forward is)

-- the need of the street of an arc
module _ (town : Town) (arc : ℕ) (need : Need) (is : option_map (λ street. street.need) (street_of town arc) ≡ Some need) where
  by_street : (X : Type 0) → ((street : Street) → street_of town arc ≡ Some street → street.need ≡ need → X) → X
  by_street X each = by (street_of town arc) refl is
    where
      by : (o : Option Street) → street_of town arc ≡ o → option_map (λ street. street.need) o ≡ Some need → X
      by None place same = absurd (none-some need same)
      by (Some street) place same = each street place (same_Some street.need need same)

  pub demanded_at : is_demanded town arc ≡ is_needed need (arc % 2 == 0)
  demanded_at = by_street (is_demanded town arc ≡ is_needed need (arc % 2 == 0)) (λ street place same.
      own_demands town (λ demand. has_arc demand arc) arc street place (λ demand has. member_from_has_arc demand arc has)
      ∙ demand_by town arc street.need (arc % 2 == 0) refl
      ∙ ap (λ n. is_needed n (arc % 2 == 0)) same)

  pub unservable_at : is_unservable town arc ≡ is_lost need (arc % 2 == 0) (not (is_legal town (2 * (arc / 2)))) (not (is_legal town (2 * (arc / 2) + 1)))
  unservable_at = by_street (is_unservable town arc ≡ is_lost need (arc % 2 == 0) (not (is_legal town (2 * (arc / 2)))) (not (is_legal town (2 * (arc / 2) + 1)))) (λ street place same.
      own_demands town (λ demand. is_first_of arc demand && not (list_any (is_legal town) demand)) arc street place
      (λ demand passes. first_inside arc demand (and_parts (is_first_of arc demand) (not (list_any (is_legal town) demand)) passes).0)
      ∙ lost_by town arc street.need (arc % 2 == 0) refl
      ∙ ap (λ n. is_lost n (arc % 2 == 0) (not (is_legal town (2 * (arc / 2)))) (not (is_legal town (2 * (arc / 2) + 1)))) same)
