-- Every tour meets the row of a chain of sets.
use Rattle.std.proofs.Common.{◌≡◌, ℕ, zero, suc, ◌+◌, ◌-◌, ◌*◌, ◌%◌, ◌<◌, ◌≤◌, min, Bool, true, false, cond, ◌&&◌, ◌||◌, not, ◌==◌, nat_le, List, [], ◌∷◌, length, count_by, pos, ◌≤ℤ◌, ap, refl, sym, ◌∙◌, subst, inl, inr, ◌⊎◌, arith, mul-le-mul_left}
use Rattle.std.specs.Prelude.{slice_index, if◌then◌else◌}
use Rattle.std.specs.Int.{abs_diff}
use Rattle.std.specs.List.{list_any, list_all, sum_by, range_with_len}
use Rattle.std.proofs.lemmas.Bool.{and_parts, and_from, or_cases, or_left, or_right, eqb-true, leb-true, leb-false, lt-leb, le-leb, cases_eq, false≢true, true≢false}
use Rattle.std.proofs.lemmas.List.Sums.{sum_by_push, sum_by-cons}
use Rattle.std.proofs.lemmas.List.FromFn.{get_or-range_with_len, length-range_with_len}
use Rattle.wrp_sums.specs.Sums.{numbers_below}
use Rattle.wrp_sums.proofs.Integers.{pos-≤ℤ}
use Rattle.wrp_sums.proofs.SumsOver.{sum_over-pos}
use Rattle.wrp_town.specs.declared.street.Step.{Step}
use Rattle.wrp_town.specs.declared.town.Town.{Town}
use Rattle.wrp_town.specs.Arcs.{tail_of, head_of, demands, is_required, arc_of}
use Rattle.wrp_town.specs.Walks.{serves, is_tour, count_of}
use Rattle.wrp_town.proofs.WalkLaws.{tour_closed, tour_serves, are_legal-from_closed}
use Rattle.wrp_town.proofs.Members.{member_from_any, member_passes}
use Rattle.wrp_town.proofs.ServiceLaws.{served_arc}
use Rattle.wrp_rules.specs.Rows.{joins_ends, joining_demands, chain_distance, kc_row, inner_sets_hold, streets_keep_sets, is_chain}
use Rattle.wrp_rules.specs.Sets.{arc_at}
use Rattle.wrp_laws.specs.Meets.{MeetsRow}
use Rattle.wrp_laws.proofs.Counts.{sum_by_counts}
use Rattle.wrp_laws.specs.Sides.{goes_over}
use Rattle.wrp_laws.proofs.Thinning.{count_cons}
use Rattle.wrp_rules.proofs.TwoWays.{both_ways_same, tail_on_street}
use Rattle.wrp_laws.proofs.Crossings.{outs, overs, overs_are_even, leaves_set, alike_on_demand, demands_driven, required_driven, member_from_positive}

-- ---- sums over the first numbers

pub sum_more : (f : ℕ → ℕ) (n : ℕ) → sum_by f (numbers_below (suc n)) ≡ sum_by f (numbers_below n) + f n
sum_more f n = sum_by_push f (numbers_below n) n

-- each term at least v
pub each_at_least : (f : ℕ → ℕ) (v n : ℕ) → ((i : ℕ) → i < n → v ≤ f i) → n * v ≤ sum_by f (numbers_below n)
each_at_least f v zero each = omega arith
each_at_least f v (suc n) each =
    omega (arith, sum_more f n, each n (omega arith), each_at_least f v n (λ i below. each i (omega arith)))

-- each term 0 or at least v, and no two of them 0
pub all_but_one_at_least : (f : ℕ → ℕ) (v n : ℕ) → ((i : ℕ) → i < n → (f i ≡ 0) ⊎ (v ≤ f i)) → ((i j : ℕ) → i < j → j < n → f i ≡ 0 → f j ≡ 0 → ⊥) → n * v ≤ sum_by f (numbers_below n) + v
all_but_one_at_least f v zero each apart = omega arith
all_but_one_at_least f v (suc n) each apart =
    by (each n (omega arith)) (all_but_one_at_least f v n (λ i below. each i (omega arith)) (λ i j less below. apart i j less (omega arith)))
  where
    others : f n ≡ 0 → (i : ℕ) → i < n → v ≤ f i
    others none i below = elim (each i (omega arith)) [ inl zero_too ↦ absurd (apart i n below (omega arith) zero_too none) | inr enough ↦ enough ]

    by : (f n ≡ 0) ⊎ (v ≤ f n) → n * v ≤ sum_by f (numbers_below n) + v → suc n * v ≤ sum_by f (numbers_below (suc n)) + v
    by (inl none) rest = omega (arith, sum_more f n, each_at_least f v n (others none))
    by (inr enough) rest = omega (arith, sum_more f n)

-- ---- levels

-- one of the two numbers is at most i, the other isn't
abbrev parts : ℕ → ℕ → ℕ → Bool
parts u v i = (nat_le u i && not (nat_le v i)) || (not (nat_le u i) && nat_le v i)

one_level : (u v n : ℕ) (s t : Bool) → nat_le u n ≡ s → nat_le v n ≡ t → ((min v n - u) + (min u n - v)) + cond ((s && not t) || (not s && t)) 1 0 ≡ (min v (suc n) - u) + (min u (suc n) - v)
one_level u v n true true e f = omega (arith, leb-true u n e, leb-true v n f)
one_level u v n true false e f = omega (arith, leb-true u n e, leb-false v n f)
one_level u v n false true e f = omega (arith, leb-false u n e, leb-true v n f)
one_level u v n false false e f = omega (arith, leb-false u n e, leb-false v n f)

levels_below : (u v n : ℕ) → sum_by (λ i. cond (parts u v i) 1 0) (numbers_below n) ≡ (min v n - u) + (min u n - v)
levels_below u v zero = omega arith
levels_below u v (suc n) =
    omega (arith, sum_more (λ i. cond (parts u v i) 1 0) n, levels_below u v n, one_level u v n (nat_le u n) (nat_le v n) refl refl)

-- between two numbers of at most k lie as many levels as they are apart
pub levels_between : (u v k : ℕ) → u ≤ k → v ≤ k → sum_by (λ i. cond (parts u v i) 1 0) (numbers_below k) ≡ abs_diff u v
levels_between u v k first second = omega (arith, levels_below u v k)

-- ---- the case argument, over plain numbers

-- t passes between the ends, of which h are asked for, and sum other passes
pub chain_cases : (d k h t sum : ℕ) → d + 2 ≡ k → 1 ≤ d → h ≤ t → (t ≡ h → k * 2 ≤ sum + 2) → (t ≡ h + 1 → k * 1 ≤ sum) → k * 1 ≤ sum + 1 → 2 * (k - 1) + d * h ≤ d * t + sum
chain_cases d k h t sum is long enough even odd least = by (cases_eq t h) (cases_eq t (h + 1))
  where
    by : (t ≡ h) ⊎ (t ≡ h → ⊥) → (t ≡ h + 1) ⊎ (t ≡ h + 1 → ⊥) → 2 * (k - 1) + d * h ≤ d * t + sum
    by (inl same) other = let e = even same in omega (arith, ap (λ n. d * n) same)
    by (inr differs) (inl next) = let o = odd next in omega (arith, ap (λ n. d * n) next)
    by (inr differs) (inr more) = let two : h + 2 ≤ t = omega arith in omega (arith, mul-le-mul_left d two)

-- ---- passes

not_and : (x y : Bool) → cond {A = ℕ} x 1 0 ≤ cond (x && not y) 1 0 + cond y 1 0
not_and true true = omega arith
not_and true false = omega arith
not_and false true = omega arith
not_and false false = omega arith

split_over : (x y : Bool) → (y ≡ true → x ≡ true) → cond {A = ℕ} x 1 0 ≡ cond y 1 0 + cond (x && not y) 1 0
split_over true true h = refl
split_over true false h = refl
split_over false true h = absurd (false≢true (h refl))
split_over false false h = refl

either_counts : (x y z : Bool) → (x ≡ true → (y || z) ≡ true) → cond {A = ℕ} x 1 0 ≤ cond y 1 0 + cond z 1 0
either_counts true true z h = omega arith
either_counts true false true h = omega arith
either_counts true false false h = absurd (false≢true (h refl))
either_counts false y z h = omega arith

count_by_either : {X : Type 0} (p q r : X → Bool) (xs : List X) → ((x : X) → p x ≡ true → (q x || r x) ≡ true) → count_by p xs ≤ count_by q xs + count_by r xs
count_by_either p q r [] each = omega arith
count_by_either p q r (x ∷ xs) each =
    omega (arith, count_cons p x xs, count_cons q x xs, count_cons r x xs, either_counts (p x) (q x) (r x) (each x), count_by_either p q r xs each)

count_by_split : {X : Type 0} (p q r : X → Bool) (xs : List X) → ((x : X) → cond {A = ℕ} (p x) 1 0 ≡ cond (q x) 1 0 + cond (r x) 1 0) → count_by p xs ≡ count_by q xs + count_by r xs
count_by_split p q r [] each = refl
count_by_split p q r (x ∷ xs) each =
    omega (arith, count_cons p x xs, count_cons q x xs, count_cons r x xs, each x, count_by_split p q r xs each)

abbrev at_of : List ℕ → ℕ → ℕ → Bool
at_of of i j = nat_le (slice_index of j) i

-- the two numbers are the first set and the last
abbrev ends : ℕ → ℕ → ℕ → Bool
ends k u v = ((u == 0) && (v == k)) || ((u == k) && (v == 0))

ends_part : (u v k i : ℕ) → i < k → ends k u v ≡ true → parts u v i ≡ true
ends_part u v k i below is =
    elim (or_cases ((u == 0) && (v == k)) ((u == k) && (v == 0)) is) [
      | inl one ↦ (
          let a = and_parts (u == 0) (v == k) one in
          let zero_is = eqb-true u 0 a.0 in
          let k_is = eqb-true v k a.1 in
          or_left (nat_le u i && not (nat_le v i)) (not (nat_le u i) && nat_le v i) (and_from (nat_le u i) (not (nat_le v i)) (le-leb u i (omega arith)) (ap not (lt-leb v i (omega arith))))
          )
      | inr other ↦ (
          let a = and_parts (u == k) (v == 0) other in
          let k_is = eqb-true u k a.0 in
          let zero_is = eqb-true v 0 a.1 in
          or_right (nat_le u i && not (nat_le v i)) (not (nat_le u i) && nat_le v i) (and_from (not (nat_le u i)) (nat_le v i) (ap not (lt-leb u i (omega arith))) (le-leb v i (omega arith)))
          )
    ]

ends_turned : (k u v : ℕ) → ends k u v ≡ ends k v u
ends_turned k u v = by (u == 0) (v == k) (u == k) (v == 0)
  where
    by : (a b c d : Bool) → ((a && b) || (c && d)) ≡ ((d && c) || (b && a))
    by true true true true = refl
    by true true true false = refl
    by true true false true = refl
    by true true false false = refl
    by true false true true = refl
    by true false true false = refl
    by true false false true = refl
    by true false false false = refl
    by false true true true = refl
    by false true true false = refl
    by false true false true = refl
    by false true false false = refl
    by false false true true = refl
    by false false true false = refl
    by false false false true = refl
    by false false false false = refl

-- ---- sums over steps and levels

sums_swap : {X : Type 0} (p : ℕ → X → Bool) (x : X) (xs : List X) (ns : List ℕ) → sum_by (λ i. count_by (p i) (x ∷ xs)) ns ≡ sum_by (λ i. cond (p i x) 1 0) ns + sum_by (λ i. count_by (p i) xs) ns
sums_swap p x xs [] = refl
sums_swap p x xs (n ∷ ns) =
    omega (
      arith,
      sum_by-cons (λ i. count_by (p i) (x ∷ xs)) n ns,
      sum_by-cons (λ i. cond (p i x) 1 0) n ns,
      sum_by-cons (λ i. count_by (p i) xs) n ns,
      count_cons (p n) x xs,
      sums_swap p x xs ns,
    )

sum_of_none : (f : ℕ → ℕ) → ((i : ℕ) → f i ≡ 0) → (ns : List ℕ) → sum_by f ns ≡ 0
sum_of_none f none [] = refl
sum_of_none f none (n ∷ ns) = omega (arith, sum_by-cons f n ns, none n, sum_of_none f none ns)

sum_of_same : (f g : ℕ → ℕ) → ((i : ℕ) → f i ≡ g i) → (ns : List ℕ) → sum_by f ns ≡ sum_by g ns
sum_of_same f g same [] = refl
sum_of_same f g same (n ∷ ns) = omega (arith, sum_by-cons f n ns, sum_by-cons g n ns, same n, sum_of_same f g same ns)

and_false : (x : Bool) → cond {A = ℕ} (x && false) 1 0 ≡ 0
and_false true = refl
and_false false = refl

and_true : (x : Bool) → cond {A = ℕ} (x && true) 1 0 ≡ cond x 1 0
and_true true = refl
and_true false = refl

-- what one step adds: k - 2 between the ends, else one for each level that it passes
one_distance : (k u v : ℕ) (t : Bool) → u ≤ k → v ≤ k → (if t then k - 2 else abs_diff u v) ≡ (k - 2) * cond t 1 0 + sum_by (λ i. cond (parts u v i && not t) 1 0) (numbers_below k)
one_distance k u v true first second = omega (arith, sum_of_none (λ i. cond (parts u v i && false) 1 0) (λ i. and_false (parts u v i)) (numbers_below k))
one_distance k u v false first second =
    omega (
      arith,
      sum_of_same (λ i. cond (parts u v i && true) 1 0) (λ i. cond (parts u v i) 1 0) (λ i. and_true (parts u v i)) (numbers_below k),
      levels_between u v k first second,
    )

set_at_most : (k : ℕ) (of : List ℕ) (j : ℕ) → list_all (λ i. nat_le i k) of ≡ true → slice_index of j ≤ k
set_at_most k [] j all = omega arith
set_at_most k (x ∷ of) zero all = leb-true x k (and_parts (nat_le x k) (list_all (λ i. nat_le i k) of) all).0
set_at_most k (x ∷ of) (suc j) all =
    set_at_most k of j (and_parts (nat_le x k) (list_all (λ i. nat_le i k) of) all).1

-- the step passes level i, and not from end to end
abbrev passes_level : Town → ℕ → List ℕ → ℕ → ℕ → Bool
passes_level town k of i arc = goes_over town (at_of of i) arc && not (joins_ends town k of arc)

-- how often the steps pass from end to end, and otherwise level i
abbrev through : Town → ℕ → List ℕ → List Step → ℕ
through town k of steps = count_by (λ step. joins_ends town k of (arc_of step)) steps

abbrev passes : Town → ℕ → List ℕ → List Step → ℕ → ℕ
passes town k of steps i = count_by (λ step. passes_level town k of i (arc_of step)) steps

distance_of_steps : (town : Town) (k : ℕ) (of : List ℕ) (steps : List Step) → list_all (λ i. nat_le i k) of ≡ true → sum_by (λ step. chain_distance town k of (arc_of step)) steps ≡ (k - 2) * through town k of steps + sum_by (passes town k of steps) (numbers_below k)
distance_of_steps town k of [] low = omega (arith, sum_of_none (λ i. 0) (λ i. refl) (numbers_below k))
distance_of_steps town k of (step ∷ steps) low =
    let u = slice_index of (tail_of town (arc_of step)) in
    let v = slice_index of (head_of town (arc_of step)) in
    let here : chain_distance town k of (arc_of step) ≡ (k - 2) * cond (joins_ends town k of (arc_of step)) 1 0 + sum_by (λ i. cond (passes_level town k of i (arc_of step)) 1 0) (numbers_below k) = one_distance k u v (joins_ends town k of (arc_of step)) (set_at_most k of (tail_of town (arc_of step)) low) (set_at_most k of (head_of town (arc_of step)) low) in
    let one_more : through town k of (step ∷ steps) ≡ cond (joins_ends town k of (arc_of step)) 1 0 + through town k of steps = count_cons (λ s. joins_ends town k of (arc_of s)) step steps in
    omega (
      arith,
      sum_by-cons (λ s. chain_distance town k of (arc_of s)) step steps,
      distance_of_steps town k of steps low,
      ap (λ (n : ℕ). (k - 2) * n) one_more,
      sums_swap (λ i s. passes_level town k of i (arc_of s)) step steps (numbers_below k),
    )

-- ---- the sets of a chain

-- what holds of sets i + 1 to j, where no step passes level i or level j but from end to end
abbrev between : List ℕ → ℕ → ℕ → ℕ → Bool
between of i j x = not (at_of of i x) && at_of of j x

level_split : (town : Town) (k : ℕ) (of : List ℕ) (steps : List Step) (i : ℕ) → i < k → overs town (at_of of i) steps ≡ through town k of steps + passes town k of steps i
level_split town k of steps i below =
    count_by_split (λ s. goes_over town (at_of of i) (arc_of s)) (λ s. joins_ends town k of (arc_of s)) (λ s. passes_level town k of i (arc_of s)) steps
    (λ s. split_over (goes_over town (at_of of i) (arc_of s)) (joins_ends town k of (arc_of s)) (ends_part (slice_index of (tail_of town (arc_of s))) (slice_index of (head_of town (arc_of s))) k i below))

-- over the difference of two levels, and so over one of them
between_parts : (a b c d e : Bool) → (e ≡ true → (((not a && b) && not (not c && d)) || (not (not a && b) && (not c && d))) ≡ false) → (((not a && b) && not (not c && d)) || (not (not a && b) && (not c && d))) ≡ true → ((((a && not c) || (not a && c)) && not e) || (((b && not d) || (not b && d)) && not e)) ≡ true
between_parts a b c d true ends over = absurd (true≢false (sym over ∙ ends refl))
between_parts true b true d false ends over = absurd (false≢true over)
between_parts true b false d false ends over = refl
between_parts false b true d false ends over = refl
between_parts false b false d false ends over = and_from _ true over refl

joins_both_ways : (town : Town) (k : ℕ) (of : List ℕ) (s : ℕ) → joins_ends town k of (2 * s) ≡ joins_ends town k of (2 * s + 1)
joins_both_ways town k of s =
    both_ways_same town (λ u v. ends k (slice_index of u) (slice_index of v)) (λ u v. ends_turned k (slice_index of u) (slice_index of v)) s

-- each inner set wholly holds a required street
record IsHeld (town : Town) (of : List ℕ) (i r : ℕ) : Type 0 where
  required : is_required town r ≡ true
  tail : slice_index of (tail_of town (2 * r)) ≡ i
  head : slice_index of (head_of town (2 * r)) ≡ i

inner_held : (town : Town) (k : ℕ) (of : List ℕ) (i : ℕ) → inner_sets_hold town k of ≡ true → 0 < i → i < k → (r : ℕ) × (IsHeld town of i r)
inner_held town k of i hold above below =
    let street_of_set = member_passes (λ n. list_any (λ street. is_required town street && (slice_index of (tail_of town (2 * street)) == n) && (slice_index of (head_of town (2 * street)) == n)) (range_with_len 0 (length town.streets))) (range_with_len 1 (k - 1)) i hold (i - 1, omega (arith, length-range_with_len 1 (k - 1)), get_or-range_with_len 1 (k - 1) (i - 1) i (omega arith) ∙ omega arith) in
    let m = member_from_any (λ street. is_required town street && (slice_index of (tail_of town (2 * street)) == i) && (slice_index of (head_of town (2 * street)) == i)) (range_with_len 0 (length town.streets)) street_of_set in
    let a = and_parts (is_required town m.0 && (slice_index of (tail_of town (2 * m.0)) == i)) (slice_index of (head_of town (2 * m.0)) == i) m.2 in
    let b = and_parts (is_required town m.0) (slice_index of (tail_of town (2 * m.0)) == i) a.0 in
    (m.0, record { required = b.0; tail = eqb-true (slice_index of (tail_of town (2 * m.0))) i b.1; head = eqb-true (slice_index of (head_of town (2 * m.0))) i a.1 })

-- a tour passes from end to end
joining_arc : (town : Town) (k : ℕ) (of : List ℕ) (steps : List Step) → is_tour town steps ≡ true → 2 ≤ joining_demands town k of → (arc : ℕ) × (0 < count_of steps arc) × (joins_ends town k of arc ≡ true)
joining_arc town k of steps tour some =
    let m = member_from_positive (λ d. joins_ends town k of (arc_at d)) (demands town) (omega arith) in
    let s = served_arc steps m.0 (member_passes (serves steps) (demands town) m.0 (tour_serves town steps tour) m.1) in
    (s.0, s.2, sym (alike_on_demand town (joins_ends town k of) (joins_both_ways town k of) m.0 s.0 m.1 s.1) ∙ m.2)

-- the ends of a chain are on one side of what lies between two levels
outside_between : (u v k i j : ℕ) → i < j → j < k → ends k u v ≡ true → (((not (nat_le u i) && nat_le u j) && not (not (nat_le v i) && nat_le v j)) || (not (not (nat_le u i) && nat_le u j) && (not (nat_le v i) && nat_le v j))) ≡ false
outside_between u v k i j less below is =
    elim (or_cases ((u == 0) && (v == k)) ((u == k) && (v == 0)) is) [
      | inl one ↦ (
          let a = and_parts (u == 0) (v == k) one in
          neither (nat_le u i) (nat_le u j) (nat_le v i) (nat_le v j) (le-leb u i (let e = eqb-true u 0 a.0 in omega arith)) (lt-leb v j (let e = eqb-true v k a.1 in omega arith))
          )
      | inr other ↦ (
          let a = and_parts (u == k) (v == 0) other in
          neither_turned (nat_le u i) (nat_le u j) (nat_le v i) (nat_le v j) (le-leb v i (let e = eqb-true v 0 a.1 in omega arith)) (lt-leb u j (let e = eqb-true u k a.0 in omega arith))
          )
    ]
  where
    neither : (a b c d : Bool) → a ≡ true → d ≡ false → (((not a && b) && not (not c && d)) || (not (not a && b) && (not c && d))) ≡ false
    neither true b true false e f = refl
    neither true b false false e f = refl
    neither true b c true e f = absurd (true≢false f)
    neither false b c d e f = absurd (false≢true e)

    neither_turned : (a b c d : Bool) → c ≡ true → b ≡ false → (((not a && b) && not (not c && d)) || (not (not a && b) && (not c && d))) ≡ false
    neither_turned true false true d e f = refl
    neither_turned false false true d e f = refl
    neither_turned a true true d e f = absurd (true≢false f)
    neither_turned a b false d e f = absurd (false≢true e)

over_between : (town : Town) (k : ℕ) (of : List ℕ) (i j : ℕ) → i < j → j < k → (arc : ℕ) → goes_over town (between of i j) arc ≡ true → (passes_level town k of i arc || passes_level town k of j arc) ≡ true
over_between town k of i j less below arc over =
    let u = slice_index of (tail_of town arc) in
    let v = slice_index of (head_of town arc) in
    between_parts (nat_le u i) (nat_le u j) (nat_le v i) (nat_le v j) (joins_ends town k of arc) (outside_between u v k i j less below) over

-- no two levels are passed from end to end alone
passed : (town : Town) (k : ℕ) (of : List ℕ) (steps : List Step) → is_tour town steps ≡ true → inner_sets_hold town k of ≡ true → 2 ≤ joining_demands town k of → (i j : ℕ) → i < j → j < k → passes town k of steps i ≡ 0 → passes town k of steps j ≡ 0 → ⊥
passed town k of steps tour hold some i j less below none_i none_j =
    let held = inner_held town k of (i + 1) hold (omega arith) (omega arith) in
    let inside = required_driven town steps held.0 tour (held.1).required in
    let outside = joining_arc town k of steps tour some in
    let within : between of i j (tail_of town inside.0) ≡ true =
    tail_on_street (λ x. between of i j x ≡ true) town inside.0
    (subst (λ r. between of i j (tail_of town (2 * r)) ≡ true) (sym inside.2) (in_set (slice_index of (tail_of town (2 * held.0))) (held.1).tail))
    (subst (λ r. between of i j (head_of town (2 * r)) ≡ true) (sym inside.2) (in_set (slice_index of (head_of town (2 * held.0))) (held.1).head)) in
    let without : between of i j (tail_of town outside.0) ≡ false = end_not (slice_index of (tail_of town outside.0)) (slice_index of (head_of town outside.0)) outside.2 in
    let left = leaves_set town (between of i j) steps inside.0 outside.0 (tour_closed town steps tour) inside.1 outside.1 within without in
    omega (
      arith,
      overs_are_even town (between of i j) steps (tour_closed town steps tour),
      count_by_either (λ s. goes_over town (between of i j) (arc_of s)) (λ s. passes_level town k of i (arc_of s)) (λ s. passes_level town k of j (arc_of s)) steps (λ s. over_between town k of i j less below (arc_of s)),
    )
  where
    in_set : (x : ℕ) → x ≡ i + 1 → (not (nat_le x i) && nat_le x j) ≡ true
    in_set x is = and_from (not (nat_le x i)) (nat_le x j) (ap not (lt-leb x i (omega arith))) (le-leb x j (omega arith))

    not_first : (x : ℕ) → x ≡ 0 → (not (nat_le x i) && nat_le x j) ≡ false
    not_first x is = ap (λ b. not b && nat_le x j) (le-leb x i (omega arith))

    not_last : (b c : Bool) → c ≡ false → (b && c) ≡ false
    not_last true c e = e
    not_last false c e = refl

    end_not : (u v : ℕ) → ends k u v ≡ true → (not (nat_le u i) && nat_le u j) ≡ false
    end_not u v is =
        elim (or_cases ((u == 0) && (v == k)) ((u == k) && (v == 0)) is) [
          | inl one ↦ not_first u (eqb-true u 0 (and_parts (u == 0) (v == k) one).0)
          | inr other ↦ not_last (not (nat_le u i)) (nat_le u j) (lt-leb u j (let e = eqb-true u k (and_parts (u == k) (v == 0) other).0 in omega arith))
        ]

-- ---- the row

zero_or_two : (n t m : ℕ) → m % 2 ≡ 0 → t ≡ m → t % 2 ≡ 0 → (x : ℕ) → t + x ≡ 2 * n → (x ≡ 0) ⊎ (2 ≤ x)
zero_or_two n t m even same also zero e = inl refl
zero_or_two n t m even same also (suc x) e = inr (omega arith)

zero_or_one : (x : ℕ) → (x ≡ 0) ⊎ (1 ≤ x)
zero_or_one zero = inl refl
zero_or_one (suc x) = inr (omega arith)

-- the distances of the steps of a tour sum to the right side
pub chain_sum : (town : Town) (k : ℕ) (of : List ℕ) (steps : List Step) → 3 ≤ k → list_all (λ i. nat_le i k) of ≡ true → is_chain town k of ≡ true → is_tour town steps ≡ true → 2 * (k - 1) + (k - 2) * joining_demands town k of ≤ sum_by (λ step. chain_distance town k of (arc_of step)) steps
chain_sum town k of steps long low chain tour =
    let a = and_parts (inner_sets_hold town k of && (joining_demands town k of % 2 == 0) && nat_le 2 (joining_demands town k of)) (streets_keep_sets town k of) chain in
    let b = and_parts (inner_sets_hold town k of && (joining_demands town k of % 2 == 0)) (nat_le 2 (joining_demands town k of)) a.0 in
    let c = and_parts (inner_sets_hold town k of) (joining_demands town k of % 2 == 0) b.0 in
    let h = joining_demands town k of in
    let t = through town k of steps in
    let even : h % 2 ≡ 0 = eqb-true (h % 2) 0 c.1 in
    let some : 2 ≤ h = leb-true 2 h b.1 in
    let enough : h ≤ t = demands_driven town (joins_ends town k of) (joins_both_ways town k of) steps (tour_serves town steps tour) in
    let apart = passed town k of steps tour c.0 some in
    let f = passes town k of steps in
    let parity : (i : ℕ) → i < k → t + f i ≡ 2 * outs town (at_of of i) steps = λ i below. sym (level_split town k of steps i below) ∙ overs_are_even town (at_of of i) steps (tour_closed town steps tour) in
    let sum = distance_of_steps town k of steps low in
    let cases = chain_cases (k - 2) k h t (sum_by f (numbers_below k)) (omega arith) (omega arith) enough
    (λ same. all_but_one_at_least f 2 k (λ i below. zero_or_two (outs town (at_of of i) steps) t h even same (omega arith) (f i) (parity i below)) apart)
    (λ next. each_at_least f 1 k (λ i below. let p = parity i below in omega arith))
    (all_but_one_at_least f 1 k (λ i below. zero_or_one (f i)) apart) in
    omega arith

pub meets_chain : (town : Town) (k : ℕ) (of : List ℕ) (steps : List Step) → 3 ≤ k → list_all (λ i. nat_le i k) of ≡ true → is_chain town k of ≡ true → is_tour town steps ≡ true → MeetsRow town steps (kc_row town k of)
meets_chain town k of steps long low chain tour =
    let sum = sum_by_counts town (λ arc. pos (chain_distance town k of arc)) steps (are_legal-from_closed town steps (tour_closed town steps tour)) in
    let count = sum_over-pos (λ step. chain_distance town k of (arc_of step)) steps in
    subst (λ z. pos (2 * (k - 1) + (k - 2) * joining_demands town k of) ≤ℤ z) (sym (sum ∙ count))
    (pos-≤ℤ (2 * (k - 1) + (k - 2) * joining_demands town k of) (sum_by (λ step. chain_distance town k of (arc_of step)) steps) (chain_sum town k of steps long low chain tour))
