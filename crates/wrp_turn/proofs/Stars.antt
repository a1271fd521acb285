-- What the code computes of one arc, and of the turns behind it.
use Rattle.std.proofs.Common.{◌≡◌, ℕ, zero, suc, ◌+◌, ◌/◌, Bool, true, false, cond, ◌==◌, ◌&&◌, not, List, [], ◌∷◌, Some, Contains, ap, refl, sym, ◌∙◌, subst, inl, inr, arith, eq-eqb}
use Rattle.std.specs.Prelude.{slice_get}
use Rattle.std.specs.List.{list_any, filter}
use Rattle.std.proofs.lemmas.Bool.{cases_eq, ne_eqb, false≢true}
use Rattle.std.proofs.lemmas.List.Elements.{Contains-append_left, Contains-append_right}
use Rattle.std.proofs.lemmas.Option.{none-some, same_Some}
use Rattle.wrp_town.specs.declared.street.Street.{Street}
use Rattle.wrp_town.specs.declared.town.Town.{Town}
use Rattle.wrp_town.specs.Streets.{demands_at, demands_from}
use Rattle.wrp_town.specs.Arcs.{is_legal, tail_of, head_of, arcs, legal_arcs, demands}
use Rattle.wrp_town.proofs.Members.{inside_head, inside_tail, any_from_member, member_from_any}
use Rattle.wrp_town.proofs.ServiceLaws.{demand_arc_street}
use Rattle.wrp_turn.specs.Turns.{is_banned, is_turn}
use Rattle.wrp_turn.specs.TurnTowns.{seconds_of}
use Rattle.wrp_town_laws.proofs.Lists.{from_filter}
use Rattle.wrp_turn.proofs.OwnDemands.{demand_at}

filter_twice : {X : Type 0} (p q r : X → Bool) (xs : List X) → ((x : X) → Contains xs x → p x ≡ (r x && q x)) → filter p xs ≡ filter q (filter r xs)
filter_twice p q r [] each = refl
filter_twice p q r (x ∷ xs) each = by (r x) (q x) (each x (inside_head x xs)) (filter_twice p q r xs (λ y inside. each y (inside_tail x xs y inside))) refl
  where
    by : (u v : Bool) → p x ≡ (u && v) → filter p xs ≡ filter q (filter r xs) → q x ≡ v → cond (p x) (x ∷ filter p xs) (filter p xs) ≡ filter q (cond u (x ∷ filter r xs) (filter r xs))
    by true true is rest own = ap (λ b. cond b (x ∷ filter p xs) (filter p xs)) is ∙ ap (λ ys. x ∷ ys) rest ∙ sym (ap (λ b. cond b (x ∷ filter q (filter r xs)) (filter q (filter r xs))) own)
    by true false is rest own = ap (λ b. cond b (x ∷ filter p xs) (filter p xs)) is ∙ rest ∙ sym (ap (λ b. cond b (x ∷ filter q (filter r xs)) (filter q (filter r xs))) own)
    by false v is rest own = ap (λ b. cond b (x ∷ filter p xs) (filter p xs)) is ∙ rest

both_true : (a b c d : Bool) → a ≡ true → b ≡ true → ((a && (b && c)) && d) ≡ (c && d)
both_true true true c d first second = refl
both_true true false c d first second = absurd (false≢true second)
both_true false b c d first second = absurd (false≢true first)

eqb_turned : (m n : ℕ) → (m == n) ≡ (n == m)
eqb_turned m n = elim (cases_eq m n) [ inl same ↦ eq-eqb m n same ∙ sym (eq-eqb n m (sym same)) | inr differs ↦ ne_eqb m n differs ∙ sym (ne_eqb n m (λ same. differs (sym same))) ]

-- a turn from a legal arc goes to an arc that leaves its head and isn't banned behind it
pub seconds_by_star : (town : Town) (bans : List (ℕ × ℕ)) (first : ℕ) → is_legal town first ≡ true
    → seconds_of town bans first ≡ filter (λ second. not (is_banned bans first second)) (filter (λ arc. tail_of town arc == head_of town first) (legal_arcs town))
seconds_by_star town bans first legal =
    filter_twice (is_turn town bans first) (λ second. not (is_banned bans first second)) (λ arc. tail_of town arc == head_of town first) (legal_arcs town)
    (λ x inside. both_true (is_legal town first) (is_legal town x) (head_of town first == tail_of town x) (not (is_banned bans first x)) legal (from_filter (is_legal town) (arcs town) x inside).1
    ∙ ap (λ b. b && not (is_banned bans first x)) (eqb_turned (head_of town first) (tail_of town x)))

inside_demands : (s : ℕ) (streets : List Street) (k t : ℕ) (street : Street) (demand : List ℕ) → t ≡ s + k → slice_get streets k ≡ Some street → Contains (demands_at t street.need) demand → Contains (demands_from s streets) demand
inside_demands s [] k t street demand at place inside = absurd (none-some street place)
inside_demands s (x ∷ streets) zero t street demand at place inside =
    let same : t ≡ s = omega arith in
    Contains-append_left (demands_at s x.need) (demands_from (s + 1) streets) demand
    (subst (λ (y : Street). Contains (demands_at s y.need) demand) (sym (same_Some x street place)) (subst (λ u. Contains (demands_at u street.need) demand) same inside))
inside_demands s (x ∷ streets) (suc k) t street demand at place inside =
    Contains-append_right (demands_at s x.need) (demands_from (s + 1) streets) demand (inside_demands (s + 1) streets k t street demand (omega arith) place inside)

same_truth : (a b : Bool) → (a ≡ true → b ≡ true) → (b ≡ true → a ≡ true) → a ≡ b
same_truth true b one two = sym (one refl)
same_truth false true one two = two refl
same_truth false false one two = refl

-- a test that passes only demands with this arc asks the demands of its street
pub own_demands : (town : Town) (p : List ℕ → Bool) (arc : ℕ) (street : Street) → slice_get town.streets (arc / 2) ≡ Some street → ((demand : List ℕ) → p demand ≡ true → Contains demand arc)
    → list_any p (demands town) ≡ list_any p (demands_at (arc / 2) street.need)
own_demands town p arc street place has =
    same_truth (list_any p (demands town)) (list_any p (demands_at (arc / 2) street.need))
    (λ some. let m = member_from_any p (demands town) some in there m.0 m.1 m.2)
    (λ some. let m = member_from_any p (demands_at (arc / 2) street.need) some in any_from_member p (demands town) m.0 (inside_demands 0 town.streets (arc / 2) (arc / 2) street m.0 (omega arith) place m.1) m.2)
  where
    there : (demand : List ℕ) → Contains (demands town) demand → p demand ≡ true → list_any p (demands_at (arc / 2) street.need) ≡ true
    there demand inside passes =
        let d = demand_at 0 town.streets demand inside in
        let k : 0 + d.k ≡ arc / 2 = sym (demand_arc_street (0 + d.k) d.street.need demand arc d.inside (has demand passes)) in
        let same : d.street ≡ street = same_Some d.street street (sym d.place ∙ ap (slice_get town.streets) (omega (arith, k)) ∙ place) in
        any_from_member p (demands_at (arc / 2) street.need) demand
        (subst (λ (y : Street). Contains (demands_at (arc / 2) y.need) demand) same (subst (λ t. Contains (demands_at t d.street.need) demand) k d.inside)) passes
