-- Arcs of one street in two towns, and streets of one direction.
use Rattle.std.proofs.Common.{◌≡◌, ℕ, ◌*◌, ◌/◌, ◌%◌, Bool, true, false, cond, Some, None, is_some, ap, refl, sym, ◌∙◌, arith}
use Rattle.std.specs.Prelude.{if◌then◌else◌}
use Rattle.std.specs.Option.{option_map_or, option_and_then, unwrap_or}
use Rattle.std.proofs.lemmas.Bool.{eqb-true, false≢true}
use Rattle.wrp_town.specs.declared.street.Street.{Street}
use Rattle.wrp_town.specs.declared.town.Town.{Town}
use Rattle.wrp_town.specs.Arcs.{street_of, is_legal, tail_of, head_of, cost_of, cost_or_zero, is_forward}
use Rattle.wrp_town.proofs.TownLaws.{tail_of-at, head_of-at}

pub record AreAlike (one two : Town) (a b : ℕ) : Type 0 where
  pub legal : is_legal one a ≡ is_legal two b
  pub tail : tail_of one a ≡ tail_of two b
  pub head : head_of one a ≡ head_of two b
  pub cost : cost_or_zero one a ≡ cost_or_zero two b

pub alike : (one two : Town) (arc : ℕ) → street_of one arc ≡ street_of two arc → AreAlike one two arc arc
alike one two arc same = record {
  legal = ap (λ o. is_some (option_and_then (λ (street : Street). if is_forward arc then street.forward else street.backward) o)) same;
  tail = ap (λ o. option_map_or (λ (street : Street). if is_forward arc then street.from else street.to) o 0) same;
  head = ap (λ o. option_map_or (λ (street : Street). if is_forward arc then street.to else street.from) o 0) same;
  cost = ap (λ o. unwrap_or (option_and_then (λ (street : Street). if is_forward arc then street.forward else street.backward) o) 0) same;
}

-- ---- a street of one direction

pub cost_of-at : (town : Town) (arc : ℕ) (street : Street) → street_of town arc ≡ Some street → cost_of town arc ≡ (if is_forward arc then street.forward else street.backward)
cost_of-at town arc street is = rw is refl

-- an arc of it that is legal is the first
pub record IsForward (town : Town) (street : Street) (arc : ℕ) : Type 0 where
  pub even : arc ≡ 2 * (arc / 2)
  pub tail : tail_of town arc ≡ street.from
  pub head : head_of town arc ≡ street.to
  pub cost : cost_of town arc ≡ street.forward

forward_by : (town : Town) (street : Street) (arc : ℕ) (w : Bool) → (is_forward arc) ≡ w → street.backward ≡ None → is_some (cond w street.forward street.backward) ≡ true
    → tail_of town arc ≡ cond w street.from street.to → head_of town arc ≡ cond w street.to street.from → cost_of town arc ≡ cond w street.forward street.backward → IsForward town street arc
forward_by town street arc true is none legal tail head cost = record { even = omega (arith, eqb-true (arc % 2) 0 is); tail = tail; head = head; cost = cost }
forward_by town street arc false is none legal tail head cost = absurd (false≢true (sym (ap is_some none) ∙ legal))

pub forward_only : (town : Town) (street : Street) (arc : ℕ) → street_of town arc ≡ Some street → street.backward ≡ None → is_legal town arc ≡ true → IsForward town street arc
forward_only town street arc is none legal =
    forward_by town street arc (is_forward arc) refl none (sym (ap is_some (cost_of-at town arc street is)) ∙ legal) (tail_of-at town arc street is) (head_of-at town arc street is) (cost_of-at town arc street is)
