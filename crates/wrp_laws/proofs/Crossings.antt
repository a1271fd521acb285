-- Closed walks and sets of junctions: a set is left as often as it is entered, so it is crossed an even number of times.
use Rattle.std.proofs.Common.{◌≡◌, ℕ, zero, suc, ◌+◌, ◌*◌, ◌/◌, ◌%◌, ◌<◌, ◌≤◌, Bool, true, false, cond, ◌&&◌, ◌||◌, not, ◌==◌, List, [], ◌∷◌, length, count_by, Contains, Option, Some, None, pos, ◌≤ℤ◌, ap, refl, sym, ◌∙◌, subst, inl, inr, arith, slice_get}
use Rattle.std.specs.Option.{option_map_or}
use Rattle.std.proofs.lemmas.Bool.{and_parts, and_from, or_cases, eqb-true, eqb-false, cases_Bool, cases_eq, cases_lt, false≢true, not-true, true≢false, false_from_ne_true}
use Rattle.std.proofs.lemmas.List.Elements.{Contains-append_cases, Contains-append_left, Contains-append_right}
use Rattle.std.proofs.lemmas.List.Sums.{sum_by-append, count_by-le-length}
use Rattle.wrp_sums.specs.Sums.{sum_over}
use Rattle.wrp_sums.proofs.Integers.{linear, ≤-from_pos}
use Rattle.wrp_sums.proofs.SumsOver.{sum_over-≤ℤ, sum_over-count, sum_over_exchange, sum_over-all_zero, sum_over-at_least_zero}
use Rattle.wrp_town.specs.declared.street.Need.{Need}
use Rattle.wrp_town.specs.declared.street.Need.TheVariants.{No, Either, Forward, Backward, Both}
use Rattle.wrp_town.specs.declared.street.Street.{Street}
use Rattle.wrp_town.specs.declared.street.Step.{Step}
use Rattle.wrp_town.specs.declared.town.Town.{Town}
use Rattle.wrp_town.specs.Streets.{demands_at, demands_from}
use Rattle.wrp_town.specs.Arcs.{tail_of, head_of, demands, is_required, has_arc, arc_of}
use Rattle.wrp_town.specs.Walks.{leads, is_closed_walk, serves, serves_all, is_tour, count_of}
use Rattle.wrp_town.proofs.WalkLaws.{LeadsBy-from_leads, leads-from_closed, tour_closed, tour_serves, are_legal-from_closed}
use Rattle.wrp_town.proofs.Members.{inside_head, inside_tail, inside_cases, inside_none, member_from_any, member_passes}
use Rattle.wrp_town.proofs.ServiceLaws.{member_from_has_arc, demand_arc_street, demand_arc_from, served_arc, step_from_counted}
use Rattle.wrp_rules.specs.Rows.{one_if, conn_row, odd_row}
use Rattle.wrp_rules.specs.Sets.{is_in, leaves, crosses, arc_at, crossing_demands, lies_in, lies_outside, is_parted}
use Rattle.wrp_rules.proofs.TwoWays.{both_ways_same, alike_on_street, tail_on_street, over_turned}
use Rattle.wrp_laws.specs.Meets.{MeetsRow}
use Rattle.wrp_laws.proofs.Counts.{sum_by_counts}
use Rattle.wrp_laws.specs.Sides.{goes_out, comes_in, goes_over}
use Rattle.wrp_laws.proofs.Thinning.{count_cons}

-- ---- counts

pub count_by_zero : {X : Type 0} (p : X → Bool) (xs : List X) → ((x : X) → Contains xs x → p x ≡ true → ⊥) → count_by p xs ≡ 0
count_by_zero p [] none = refl
count_by_zero p (x ∷ xs) none =
    omega (
      arith,
      count_cons p x xs,
      ap (λ (b : Bool). cond {A = ℕ} b 1 0) (false_from_ne_true (p x) (none x (inside_head x xs))),
      count_by_zero p xs (λ y inside. none y (inside_tail x xs y inside)),
    )

pub count_by_some : {X : Type 0} (p : X → Bool) (xs : List X) (x : X) → Contains xs x → p x ≡ true → 0 < count_by p xs
count_by_some p [] x inside passes = absurd (inside_none x inside)
count_by_some p (y ∷ xs) x inside passes =
    inside_cases (0 < count_by p (y ∷ xs)) y xs x inside
    (λ same. omega (arith, count_cons p y xs, ap (λ (b : Bool). cond {A = ℕ} b 1 0) (ap p same ∙ passes)))
    (λ other. omega (arith, count_cons p y xs, count_by_some p xs x other passes))

pub member_from_positive : {X : Type 0} (p : X → Bool) (xs : List X) → 0 < count_by p xs → (x : X) × (Contains xs x) × (p x ≡ true)
member_from_positive p [] some = absurd (omega arith)
member_from_positive p (x ∷ xs) some =
    elim (cases_Bool (p x)) [
      | inl here ↦ (x, inside_head x xs, here)
      | inr fails ↦ (
          let rest = member_from_positive p xs (omega (arith, count_cons p x xs, ap (λ (b : Bool). cond {A = ℕ} b 1 0) fails)) in
          (rest.0, inside_tail x xs rest.0 rest.1, rest.2)
          )
    ]

-- ---- out of a set and into it

-- how often the steps do so
abbrev pub outs : Town → (ℕ → Bool) → List Step → ℕ
outs town set steps = count_by (λ step. goes_out town set (arc_of step)) steps

abbrev pub ins : Town → (ℕ → Bool) → List Step → ℕ
ins town set steps = count_by (λ step. comes_in town set (arc_of step)) steps

abbrev pub overs : Town → (ℕ → Bool) → List Step → ℕ
overs town set steps = count_by (λ step. goes_over town set (arc_of step)) steps

one_balance : (x y : Bool) → cond {A = ℕ} (x && not y) 1 0 + cond y 1 0 ≡ cond (not x && y) 1 0 + cond x 1 0
one_balance true true = refl
one_balance true false = refl
one_balance false true = refl
one_balance false false = refl

one_over : (x y : Bool) → cond {A = ℕ} ((x && not y) || (not x && y)) 1 0 ≡ cond (x && not y) 1 0 + cond (not x && y) 1 0
one_over true true = refl
one_over true false = refl
one_over false true = refl
one_over false false = refl

-- a walk goes out of a set as often as it comes in, but for its ends
pub walk_crossings : (town : Town) (set : ℕ → Bool) (i : ℕ) (steps : List Step) (j : ℕ) → leads town i steps j ≡ true → outs town set steps + cond (set j) 1 0 ≡ ins town set steps + cond (set i) 1 0
walk_crossings town set i [] j lead = omega (arith, ap (λ k. cond {A = ℕ} (set k) 1 0) (eqb-true i j lead))
walk_crossings town set i (step ∷ steps) j lead =
    let by = LeadsBy-from_leads town i step steps j lead in
    omega (
      arith,
      count_cons (λ s. goes_out town set (arc_of s)) step steps,
      count_cons (λ s. comes_in town set (arc_of s)) step steps,
      walk_crossings town set (head_of town (arc_of step)) steps j by.goes_on,
      one_balance (set (tail_of town (arc_of step))) (set (head_of town (arc_of step))),
      ap (λ k. cond {A = ℕ} (set k) 1 0) by.begins,
    )

pub overs_are : (town : Town) (set : ℕ → Bool) (steps : List Step) → overs town set steps ≡ outs town set steps + ins town set steps
overs_are town set [] = refl
overs_are town set (step ∷ steps) =
    omega (
      arith,
      count_cons (λ s. goes_out town set (arc_of s)) step steps,
      count_cons (λ s. comes_in town set (arc_of s)) step steps,
      count_cons (λ s. goes_over town set (arc_of s)) step steps,
      overs_are town set steps,
      one_over (set (tail_of town (arc_of step))) (set (head_of town (arc_of step))),
    )

-- leaving equals entering
pub outs_are_ins : (town : Town) (set : ℕ → Bool) (steps : List Step) → is_closed_walk town steps ≡ true → outs town set steps ≡ ins town set steps
outs_are_ins town set steps closed =
    let from = leads-from_closed town steps closed in
    let both = walk_crossings town set from.0 steps from.0 from.1 in omega arith

-- so a set is crossed an even number of times
pub overs_are_even : (town : Town) (set : ℕ → Bool) (steps : List Step) → is_closed_walk town steps ≡ true → overs town set steps ≡ 2 * outs town set steps
overs_are_even town set steps closed = omega (arith, overs_are town set steps, outs_are_ins town set steps closed)

-- ---- a walk on both sides of a set leaves it

same_side : (x y : Bool) → ((x && not y) || (not x && y)) ≡ false → y ≡ x
same_side true true h = refl
same_side false false h = refl
same_side true false h = absurd (true≢false h)
same_side false true h = absurd (true≢false h)

one_is_false : (b : Bool) (n : ℕ) → cond {A = ℕ} b 1 0 + n ≡ 0 → b ≡ false
one_is_false true n h = absurd (omega arith)
one_is_false false n h = refl

pub stays : (town : Town) (set : ℕ → Bool) (i : ℕ) (steps : List Step) (j : ℕ) → leads town i steps j ≡ true → overs town set steps ≡ 0 → (step : Step) → Contains steps step → set (tail_of town (arc_of step)) ≡ set i
stays town set i [] j lead none step inside = absurd (inside_none step inside)
stays town set i (first ∷ steps) j lead none step inside =
    let by = LeadsBy-from_leads town i first steps j lead in
    let count = count_cons (λ s. goes_over town set (arc_of s)) first steps in
    let here : goes_over town set (arc_of first) ≡ false = one_is_false _ (overs town set steps) (sym count ∙ none) in
    let rest : overs town set steps ≡ 0 = omega arith in
    inside_cases (set (tail_of town (arc_of step)) ≡ set i) first steps step inside
    (λ same. ap (λ s. set (tail_of town (arc_of s))) (sym same) ∙ ap set by.begins)
    (λ other. stays town set (head_of town (arc_of first)) steps j by.goes_on rest step other
    ∙ same_side (set (tail_of town (arc_of first))) (set (head_of town (arc_of first))) here
    ∙ ap set by.begins)

-- steps begin on both sides
pub leaves_set : (town : Town) (set : ℕ → Bool) (steps : List Step) (one two : ℕ) → is_closed_walk town steps ≡ true → 0 < count_of steps one → 0 < count_of steps two → set (tail_of town one) ≡ true → set (tail_of town two) ≡ false → 0 < outs town set steps
leaves_set town set steps one two closed first second inside outside =
    elim (cases_lt 0 (outs town set steps)) [
      | inl some ↦ some
      | inr none ↦ (
          let from = leads-from_closed town steps closed in
          let over : overs town set steps ≡ 0 = omega (arith, overs_are_even town set steps closed) in
          let s = step_from_counted steps one first in
          let t = step_from_counted steps two second in
          let at_one = stays town set from.0 steps from.0 from.1 over s.0 s.1 in
          let at_two = stays town set from.0 steps from.0 from.1 over t.0 t.1 in
          absurd (true≢false (sym inside ∙ ap (λ a. set (tail_of town a)) (sym s.2) ∙ at_one ∙ sym at_two ∙ ap (λ a. set (tail_of town a)) t.2 ∙ outside))
          )
    ]

-- ---- demands

-- how many demands hold an arc: at most one
none_at : (s : ℕ) (need : Need) (arc : ℕ) → (arc / 2 ≡ s → ⊥) → count_by (λ d. has_arc d arc) (demands_at s need) ≡ 0
none_at s need arc differs =
    count_by_zero (λ d. has_arc d arc) (demands_at s need) (λ d inside has. differs (demand_arc_street s need d arc inside (member_from_has_arc d arc has)))

short_one : {X : Type 0} (p : X → Bool) (xs : List X) → length xs ≤ 1 → count_by p xs ≤ 1
short_one p xs short = omega (arith, count_by-le-length p xs)

not_both : (x y : Bool) → (x ≡ true → y ≡ true → ⊥) → cond {A = ℕ} x 1 0 + cond y 1 0 ≤ 1
not_both true true h = absurd (h refl refl)
not_both true false h = omega arith
not_both false true h = omega arith
not_both false false h = omega arith

once_at : (s : ℕ) (need : Need) (arc : ℕ) → count_by (λ d. has_arc d arc) (demands_at s need) ≤ 1
once_at s No arc = omega arith
once_at s Either arc = short_one (λ d. has_arc d arc) (demands_at s Either) (omega arith)
once_at s Forward arc = short_one (λ d. has_arc d arc) (demands_at s Forward) (omega arith)
once_at s Backward arc = short_one (λ d. has_arc d arc) (demands_at s Backward) (omega arith)
once_at s Both arc =
    let two = not_both (has_arc (2 * s ∷ []) arc) (has_arc ((2 * s + 1) ∷ []) arc) (λ one other. apart (alone (2 * s) arc one) (alone (2 * s + 1) arc other)) in
    omega (arith, count_cons (λ d. has_arc d arc) (2 * s ∷ []) (((2 * s + 1) ∷ []) ∷ []), count_cons (λ d. has_arc d arc) ((2 * s + 1) ∷ []) [])
  where
    alone : (x a : ℕ) → has_arc (x ∷ []) a ≡ true → a ≡ x
    alone x a h = elim (or_cases (a == x) false h) [ inl e ↦ eqb-true a x e | inr e ↦ absurd (false≢true e) ]

    apart : arc ≡ 2 * s → arc ≡ 2 * s + 1 → ⊥
    apart e f = omega arith

none_from : (s : ℕ) (streets : List Street) (arc : ℕ) → arc / 2 < s → count_by (λ d. has_arc d arc) (demands_from s streets) ≡ 0
none_from s streets arc below =
    count_by_zero (λ d. has_arc d arc) (demands_from s streets) (λ d inside has. let range = demand_arc_from s streets d arc inside (member_from_has_arc d arc has) in omega arith)

once_from : (s : ℕ) (streets : List Street) (arc : ℕ) → count_by (λ d. has_arc d arc) (demands_from s streets) ≤ 1
once_from s [] arc = omega arith
once_from s (street ∷ streets) arc =
    let all = sum_by-append (λ d. cond (has_arc d arc) 1 0) (demands_at s street.need) (demands_from (s + 1) streets) in
    elim (cases_eq (arc / 2) s) [
      | inl same ↦ omega (arith, once_at s street.need arc, none_from (s + 1) streets arc (omega arith))
      | inr differs ↦ omega (arith, none_at s street.need arc differs, once_from (s + 1) streets arc)
    ]

pub once_demanded : (town : Town) (arc : ℕ) → count_by (λ d. has_arc d arc) (demands town) ≤ 1
once_demanded town arc = once_from 0 town.streets arc

-- the arcs of a demand are those of one street
one_street_from : (s : ℕ) (streets : List Street) (d : List ℕ) (a b : ℕ) → Contains (demands_from s streets) d → Contains d a → Contains d b → a / 2 ≡ b / 2
one_street_from s [] d a b inside first second = absurd (inside_none d inside)
one_street_from s (street ∷ streets) d a b inside first second =
    elim (Contains-append_cases (demands_at s street.need) (demands_from (s + 1) streets) d inside) [
      | inl here ↦ demand_arc_street s street.need d a here first ∙ sym (demand_arc_street s street.need d b here second)
      | inr there ↦ one_street_from (s + 1) streets d a b there first second
    ]

-- so does the arc by which the sets know its street
has_first : (d : List ℕ) (a : ℕ) → Contains d a → Contains d (arc_at d)
has_first [] a inside = absurd (inside_none a inside)
has_first (x ∷ d) a inside = inside_head x d

pub alike_on_demand : (town : Town) (q : ℕ → Bool) → ((s : ℕ) → q (2 * s) ≡ q (2 * s + 1)) → (d : List ℕ) (arc : ℕ) → Contains (demands town) d → Contains d arc → q (arc_at d) ≡ q arc
alike_on_demand town q both d arc inside has =
    alike_on_street q both (arc_at d) arc (one_street_from 0 town.streets d (arc_at d) arc inside (has_first d arc has) has)

-- ---- as many steps as demands

not_negative : (b : Bool) → pos 0 ≤ℤ cond b (pos 1) (pos 0)
not_negative true = omega (arith, linear)
not_negative false = omega (arith, linear)

module _ (town : Town) (q : ℕ → Bool) (both : (s : ℕ) → q (2 * s) ≡ q (2 * s + 1)) (steps : List Step) (served : serves_all town steps ≡ true) where
  -- a step on an arc of the demand that passes
  abbrev hits : List ℕ → Step → Bool
  hits d step = q (arc_of step) && has_arc d (arc_of step)

  demand_hit : (d : List ℕ) → Contains (demands town) d → (t : Bool) → q (arc_at d) ≡ t → cond t (pos 1) (pos 0) ≤ℤ sum_over (λ step. cond (hits d step) (pos 1) (pos 0)) steps
  demand_hit d inside false e = sum_over-at_least_zero (λ step. cond (hits d step) (pos 1) (pos 0)) steps (λ step there. not_negative (hits d step))
  demand_hit d inside true e =
      let m = member_from_any (λ step. has_arc d (arc_of step)) steps (member_passes (serves steps) (demands town) d served inside) in
      let passes : q (arc_of m.0) ≡ true = sym (alike_on_demand town q both d (arc_of m.0) inside (member_from_has_arc d (arc_of m.0) m.2)) ∙ e in
      omega (arith, linear, sum_over-count (hits d) steps, count_by_some (hits d) steps m.0 m.1 (and_from _ _ passes m.2))

  step_hits : (step : Step) → (t : Bool) → q (arc_of step) ≡ t → sum_over (λ d. cond (t && has_arc d (arc_of step)) (pos 1) (pos 0)) (demands town) ≤ℤ cond t (pos 1) (pos 0)
  step_hits step false e = omega (arith, linear, sum_over-all_zero (λ (d : List ℕ). pos 0) (demands town) (λ d inside. refl))
  step_hits step true e = omega (arith, linear, sum_over-count (λ d. has_arc d (arc_of step)) (demands town), once_demanded town (arc_of step))

  -- at least as many steps are on arcs that pass as demands have such arcs
  pub demands_driven : count_by (λ d. q (arc_at d)) (demands town) ≤ count_by (λ step. q (arc_of step)) steps
  demands_driven =
      ≤-from_pos _ _
      (omega (
        arith,
        linear,
        sum_over-count (λ d. q (arc_at d)) (demands town),
        sum_over-≤ℤ (λ d. cond (q (arc_at d)) (pos 1) (pos 0)) (λ d. sum_over (λ step. cond (hits d step) (pos 1) (pos 0)) steps) (demands town) (λ d inside. demand_hit d inside (q (arc_at d)) refl),
        sum_over_exchange (λ d step. cond (hits d step) (pos 1) (pos 0)) (demands town) steps,
        sum_over-≤ℤ (λ step. sum_over (λ d. cond (hits d step) (pos 1) (pos 0)) (demands town)) (λ step. cond (q (arc_of step)) (pos 1) (pos 0)) steps (λ step inside. step_hits step (q (arc_of step)) refl),
        sum_over-count (λ step. q (arc_of step)) steps,
      ))

-- ---- required streets

pub demand_there : (s i : ℕ) (streets : List Street) (street : Street) (d : List ℕ) → slice_get streets i ≡ Some street → Contains (demands_at (s + i) street.need) d → Contains (demands_from s streets) d
demand_there s i [] street d is inside = absurd (cc)
demand_there s zero (first ∷ streets) street d is inside =
    let same : first ≡ street = cc in
    Contains-append_left (demands_at s first.need) (demands_from (s + 1) streets) d
    (subst (λ (x : Street). Contains (demands_at s x.need) d) (sym same) (subst (λ k. Contains (demands_at k street.need) d) (omega arith) inside))
demand_there s (suc i) (first ∷ streets) street d is inside =
    Contains-append_right (demands_at s first.need) (demands_from (s + 1) streets) d
    (demand_there (s + 1) i streets street d is (subst (λ k. Contains (demands_at k street.need) d) (omega arith) inside))

some_member : {X : Type 0} (xs : List X) → not (length xs == 0) ≡ true → (x : X) × (Contains xs x)
some_member [] some = absurd (false≢true some)
some_member (x ∷ xs) some = (x, inside_head x xs)

required_demand : (r : ℕ) (found : Option Street) → option_map_or (λ s. not (length (demands_at r s.need) == 0)) found false ≡ true → (street : Street) × (found ≡ Some street) × (d : List ℕ) × (Contains (demands_at r street.need) d)
required_demand r None is = absurd (false≢true is)
required_demand r (Some street) is =
    let m = some_member (demands_at r street.need) is in (street, refl, m.0, m.1)

-- a tour drives each required street
pub required_driven : (town : Town) (steps : List Step) (r : ℕ) → is_tour town steps ≡ true → is_required town r ≡ true → (arc : ℕ) × (0 < count_of steps arc) × (arc / 2 ≡ r)
required_driven town steps r tour required =
    let m = required_demand r (slice_get town.streets r) required in
    let there = demand_there 0 r town.streets m.0 m.2 m.1 (subst (λ k. Contains (demands_at k (m.0).need) m.2) (omega arith) m.3) in
    let s = served_arc steps m.2 (member_passes (serves steps) (demands town) m.2 (tour_serves town steps tour) there) in
    (s.0, s.2, demand_arc_street r (m.0).need m.2 s.0 m.3 s.1)

-- ---- rows that count steps

-- a row of ones where a test holds is met where enough steps pass
pub meets_by_count : (town : Town) (test : ℕ → Bool) (side : ℕ) (steps : List Step) → is_closed_walk town steps ≡ true → side ≤ count_by (λ step. test (arc_of step)) steps → MeetsRow town steps (record { coef = λ arc. one_if (test arc); right_side = pos side })
meets_by_count town test side steps closed enough =
    let sum = sum_by_counts town (λ arc. one_if (test arc)) steps (are_legal-from_closed town steps closed) in
    let count = sum_over-count (λ step. test (arc_of step)) steps in
    subst (λ z. pos side ≤ℤ z) (sym (sum ∙ count)) (omega (arith, linear))

-- ---- connectivity

pub leaves_parted : (town : Town) (r1 r2 : ℕ) (set : List ℕ) (steps : List Step) → is_parted town r1 r2 set ≡ true → is_tour town steps ≡ true → 0 < outs town (is_in set) steps
leaves_parted town r1 r2 set steps parted tour =
    let a = and_parts (is_required town r1 && is_required town r2 && lies_in town set r1) (lies_outside town set r2) parted in
    let b = and_parts (is_required town r1 && is_required town r2) (lies_in town set r1) a.0 in
    let c = and_parts (is_required town r1) (is_required town r2) b.0 in
    let within = and_parts (is_in set (tail_of town (2 * r1))) (is_in set (head_of town (2 * r1))) b.1 in
    let without = and_parts (not (is_in set (tail_of town (2 * r2)))) (not (is_in set (head_of town (2 * r2)))) a.1 in
    let one = required_driven town steps r1 tour c.0 in
    let two = required_driven town steps r2 tour c.1 in
    leaves_set town (is_in set) steps one.0 two.0 (tour_closed town steps tour) one.1 two.1
    (tail_on_street (λ j. is_in set j ≡ true) town one.0 (subst (λ r. is_in set (tail_of town (2 * r)) ≡ true) (sym one.2) within.0) (subst (λ r. is_in set (head_of town (2 * r)) ≡ true) (sym one.2) within.1))
    (tail_on_street (λ j. is_in set j ≡ false) town two.0 (subst (λ r. is_in set (tail_of town (2 * r)) ≡ false) (sym two.2) (not-true _ without.0)) (subst (λ r. is_in set (head_of town (2 * r)) ≡ false) (sym two.2) (not-true _ without.1)))

-- every tour meets the row of a set that parts two required streets
pub meets_conn : (town : Town) (r1 r2 : ℕ) (set : List ℕ) (steps : List Step) → is_parted town r1 r2 set ≡ true → is_tour town steps ≡ true → MeetsRow town steps (conn_row town set)
meets_conn town r1 r2 set steps parted tour =
    meets_by_count town (leaves town set) 1 steps (tour_closed town steps tour) (leaves_parted town r1 r2 set steps parted tour)

-- ---- odd sets

pub over_both_ways : (town : Town) (set : ℕ → Bool) (s : ℕ) → goes_over town set (2 * s) ≡ goes_over town set (2 * s + 1)
over_both_ways town set s = both_ways_same town (λ u v. (set u && not (set v)) || (not (set u) && set v)) (λ u v. over_turned (set u) (set v)) s

odd_rest : (k : ℕ) → not (k % 2 == 0) ≡ true → k % 2 ≡ 1
odd_rest k odd = let differs = eqb-false (k % 2) 0 (not-true (k % 2 == 0) odd) in elim (cases_eq (k % 2) 0) [ inl e ↦ absurd (differs e) | inr e ↦ omega arith ]

-- a set that an odd number of demands cross is crossed once more
pub crosses_odd : (town : Town) (set : List ℕ) (steps : List Step) → not (crossing_demands town set % 2 == 0) ≡ true → is_tour town steps ≡ true → crossing_demands town set + 1 ≤ overs town (is_in set) steps
crosses_odd town set steps odd tour =
    let least : crossing_demands town set ≤ overs town (is_in set) steps = demands_driven town (crosses town set) (over_both_ways town (is_in set)) steps (tour_serves town steps tour) in
    omega (arith, overs_are_even town (is_in set) steps (tour_closed town steps tour), odd_rest (crossing_demands town set) odd)

pub meets_odd : (town : Town) (set : List ℕ) (steps : List Step) → not (crossing_demands town set % 2 == 0) ≡ true → is_tour town steps ≡ true → MeetsRow town steps (odd_row town set)
meets_odd town set steps odd tour =
    meets_by_count town (crosses town set) (crossing_demands town set + 1) steps (tour_closed town steps tour) (crosses_odd town set steps odd tour)
