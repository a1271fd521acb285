-- The arcs that have a street in the turn town, their places, and the turns between them.
use Rattle.std.proofs.Common.{◌≡◌, ℕ, zero, suc, ◌+◌, ◌*◌, ◌%◌, ◌<◌, ◌≤◌, Bool, true, false, cond, ◌==◌, ◌&&◌, ◌||◌, not, List, ◌∷◌, length, Some, Contains, ap, sym, ◌∙◌, subst, inl, inr, arith, eq-eqb}
use Rattle.std.specs.Prelude.{slice_get}
use Rattle.std.specs.List.{filter, position_or_len, range_with_len}
use Rattle.std.proofs.lemmas.Bool.{and_parts, and_from, or_left, or_right, eqb-true, cases_eq, ne_eqb, true≢false}
use Rattle.std.proofs.lemmas.Option.{none-some, same_Some}
use Rattle.wrp_town.specs.declared.street.Step.{Step}
use Rattle.wrp_town.specs.declared.town.Town.{Town}
use Rattle.wrp_town.specs.Arcs.{is_legal, tail_of, head_of, arcs, legal_arcs, arc_of, step_along}
use Rattle.wrp_town.proofs.TownLaws.{legal_below, arc_of-half}
use Rattle.wrp_town.proofs.Members.{inside_head, inside_tail}
use Rattle.wrp_turn.specs.Turns.{is_banned, follows, is_turn}
use Rattle.wrp_turn.specs.TurnTowns.{is_unservable, arcs_of, place_of, turns_from, turns_of}
use Rattle.wrp_town_laws.proofs.Lists.{get_from_inside, inside_filter, from_filter, inside_map, from_map, inside_flat, from_flat}

place_step : (b : Bool) (position k : ℕ) → b ≡ false → position ≡ k → cond {A = ℕ} (not b) (1 + position) 0 ≡ suc k
place_step true position k differs is = absurd (true≢false differs)
place_step false position k differs is = omega arith

place_more : (p : ℕ → Bool) (s a : ℕ) (rest : List ℕ) (k : ℕ) (w : Bool)
    → ((i : ℕ) → slice_get rest i ≡ Some a → (s + 1 ≤ a) × (position_or_len (λ other. other == a) rest ≡ i))
    → slice_get (cond w (s ∷ rest) rest) k ≡ Some a → (s ≤ a) × (position_or_len (λ other. other == a) (cond w (s ∷ rest) rest) ≡ k)
place_more p s a rest zero true each is = let same = same_Some s a is in (omega arith, ap (λ b. cond {A = ℕ} (not b) (1 + position_or_len (λ other. other == a) rest) 0) (eq-eqb s a same))
place_more p s a rest (suc k) true each is =
    let r = each k is in (omega (arith, r.0), place_step (s == a) (position_or_len (λ other. other == a) rest) k (ne_eqb s a (λ same. omega (arith, r.0))) r.1)
place_more p s a rest k false each is = let r = each k is in (omega (arith, r.0), r.1)

pub place_in : (p : ℕ → Bool) (s n k a : ℕ) → slice_get (filter p (range_with_len s n)) k ≡ Some a → (s ≤ a) × (position_or_len (λ other. other == a) (filter p (range_with_len s n)) ≡ k)
place_in p s zero k a is = absurd (none-some a is)
place_in p s (suc n) k a is = place_more p s a (filter p (range_with_len (s + 1) n)) k (p s) (λ i at. place_in p (s + 1) n i a at) is

pub inside_range : (s n x : ℕ) → s ≤ x → x < s + n → Contains (range_with_len s n) x
inside_range s zero x from below = absurd (omega arith)
inside_range s (suc n) x from below =
    elim (cases_eq s x) [
      | inl same ↦ subst (λ y. Contains (s ∷ range_with_len (s + 1) n) y) same (inside_head s (range_with_len (s + 1) n))
      | inr differs ↦ inside_tail s (range_with_len (s + 1) n) x (inside_range (s + 1) n x (omega arith) (omega arith))
    ]

pub record TurnParts (town : Town) (bans : List (ℕ × ℕ)) (a b : ℕ) : Type 0 where
  pub first : is_legal town a ≡ true
  pub second : is_legal town b ≡ true
  pub meets : head_of town a ≡ tail_of town b
  pub free : not (is_banned bans a b) ≡ true

pub turn_parts : (town : Town) (bans : List (ℕ × ℕ)) (a b : ℕ) → is_turn town bans a b ≡ true → TurnParts town bans a b
turn_parts town bans a b turn =
    let p = and_parts (follows town a b) (not (is_banned bans a b)) turn in
    let q = and_parts (is_legal town a) (is_legal town b && (head_of town a == tail_of town b)) p.0 in
    let r = and_parts (is_legal town b) (head_of town a == tail_of town b) q.1 in
    record { first = q.0; second = r.0; meets = eqb-true (head_of town a) (tail_of town b) r.1; free = p.1 }

pub turn_from : (town : Town) (bans : List (ℕ × ℕ)) (a b : ℕ) → TurnParts town bans a b → is_turn town bans a b ≡ true
turn_from town bans a b t = and_from _ _ (and_from _ _ t.first (and_from _ _ t.second (eq-eqb (head_of town a) (tail_of town b) t.meets))) t.free

step_back : (s : ℕ) (back : Bool) → ((2 * s + cond back 1 0) % 2 == 1) ≡ back
step_back s true = eq-eqb ((2 * s + 1) % 2) 1 (omega arith)
step_back s false = ne_eqb ((2 * s + 0) % 2) 1 (λ same. omega arith)

pub step_along-arc_of : (step : Step) → step_along (arc_of step) ≡ step
step_along-arc_of step = λ i. record { street = arc_of-half step i; back = step_back step.street step.back i }

module _ (town : Town) where
  pub legal_own : (arc : ℕ) → is_legal town arc ≡ true → Contains (arcs_of town) arc
  legal_own arc legal =
      inside_filter (λ a. is_legal town a || is_unservable town a) (arcs town) arc (inside_range 0 (2 * length town.streets) arc (omega arith) (omega (arith, legal_below town arc legal)))
      (or_left (is_legal town arc) (is_unservable town arc) legal)

  pub unservable_own : (arc : ℕ) → arc < 2 * length town.streets → is_unservable town arc ≡ true → Contains (arcs_of town) arc
  unservable_own arc below un =
      inside_filter (λ a. is_legal town a || is_unservable town a) (arcs town) arc (inside_range 0 (2 * length town.streets) arc (omega arith) (omega arith))
      (or_right (is_legal town arc) (is_unservable town arc) un)

  pub place_is : (k a : ℕ) → slice_get (arcs_of town) k ≡ Some a → place_of town a ≡ k
  place_is k a is = (place_in (λ b. is_legal town b || is_unservable town b) 0 (2 * length town.streets) k a is).1

  pub at_place : (a : ℕ) → Contains (arcs_of town) a → slice_get (arcs_of town) (place_of town a) ≡ Some a
  at_place a inside = let at = get_from_inside (arcs_of town) a inside in ap (slice_get (arcs_of town)) (place_is at.0 a at.1) ∙ at.1

  pub same_own : (k j a b : ℕ) → k ≡ j → slice_get (arcs_of town) k ≡ Some a → slice_get (arcs_of town) j ≡ Some b → a ≡ b
  same_own k j a b same one two = same_Some a b (sym one ∙ ap (slice_get (arcs_of town)) same ∙ two)

  inside_legal_arcs : (arc : ℕ) → is_legal town arc ≡ true → Contains (legal_arcs town) arc
  inside_legal_arcs arc legal = inside_filter (is_legal town) (arcs town) arc (inside_range 0 (2 * length town.streets) arc (omega arith) (omega (arith, legal_below town arc legal))) legal

module _ (town : Town) (bans : List (ℕ × ℕ)) where
  pub inside_turns : (a b : ℕ) → is_turn town bans a b ≡ true → Contains (turns_of town bans) (a, b)
  inside_turns a b turn =
      let t = turn_parts town bans a b turn in
      inside_flat (turns_from town bans) (legal_arcs town) a (a, b) (inside_legal_arcs town a t.first)
      (inside_map (λ second. (a, second)) (filter (is_turn town bans a) (legal_arcs town)) b (inside_filter (is_turn town bans a) (legal_arcs town) b (inside_legal_arcs town b t.second) turn))

  pub from_turns : (t : ℕ × ℕ) → Contains (turns_of town bans) t → is_turn town bans t.0 t.1 ≡ true
  from_turns t inside =
      let f = from_flat (turns_from town bans) (legal_arcs town) t inside in
      let m = from_map (λ second. (f.0, second)) (filter (is_turn town bans f.0) (legal_arcs town)) t f.2 in
      subst (λ (u : ℕ × ℕ). is_turn town bans u.0 u.1 ≡ true) m.2 (from_filter (is_turn town bans f.0) (legal_arcs town) m.0 m.1).1
