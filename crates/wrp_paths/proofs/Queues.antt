-- Laws of the queue of a search: which walk comes first, and what walks that go on along arcs add.
use Rattle.std.proofs.Common.{◌≡◌, ℕ, ◌+◌, ◌*◌, ◌<◌, ◌≤◌, Bool, true, false, not, cond, ◌&&◌, ◌||◌, ◌==◌, leb, List, [], ◌∷◌, ◌++◌, length, map, take, get_or, Option, is_some, All, refl, sym, ap, ◌∙◌, inl, inr, arith, eq-eqb, nat_cmp, Ordering}
use Rattle.std.specs.List.{list_any, filter, range_with_len}
use Rattle.std.specs.BinaryHeap.{IsUpperBound}
use Rattle.std.specs.Ordering.{is_lt, ordering_then}
use Rattle.std.specs.declared.cmp.Ordering.TheVariants.{Less, Equal, Greater}
use Rattle.std.specs.declared.cmp.Reverse.{Reverse}
use Rattle.std.proofs.lemmas.Bool.{and_from, eqb-true, or_cases, or_left, or_right, le-leb}
use Rattle.std.proofs.lemmas.Bool.Decides.{nat_tests}
use Rattle.std.proofs.lemmas.List.{length-map, map-append}
use Rattle.std.proofs.lemmas.List.Elements.{All-nil, All-cons, All-append, All-map, All-weaker, All-filter, filter_passes, filter_more}
use Rattle.std.proofs.lemmas.List.Folds.{list_any_at}
use Rattle.std.proofs.lemmas.List.FromFn.{get_or-range_with_len, length-range_with_len}
use Rattle.std.proofs.lemmas.List.Sums.{length-filter, count_by-le-length}
use Rattle.wrp_town.specs.declared.town.Town.{Town}
use Rattle.wrp_town.specs.Arcs.{tail_of, head_of, is_legal, cost_or_zero, arcs, legal_arcs}
use Rattle.wrp_town.proofs.TownLaws.{legal_below}
use Rattle.wrp_graph.specs.Stars.{out_of}
use Rattle.wrp_paths.specs.declared.arrival.Arrival.{Arrival}
use Rattle.wrp_paths.specs.Arrivals.{along, entry_at}
use Rattle.wrp_paths.specs.Search.{dearer_first, is_queued, leads_on, onward}

-- what comes first decides unless it ties
first_decides : (a b : Ordering) → is_lt (ordering_then a b) ≡ false → is_lt a ≡ false
first_decides Less b is = is
first_decides Equal b is = refl
first_decides Greater b is = is

at_most : (m n : ℕ) → is_lt (nat_cmp m n) ≡ false → n ≤ m
at_most m n is = grind (arith, nat_tests)

-- no walk in the queue costs less than its greatest
pub least_of_greatest : (q : Reverse Arrival) (queue : List (Reverse Arrival)) → IsUpperBound dearer_first q queue → All (λ r. q.0.cost ≤ r.0.cost) queue
least_of_greatest q [] greatest = All-nil (λ r. q.0.cost ≤ r.0.cost)
least_of_greatest q (r ∷ queue) greatest =
    All-cons (λ s. q.0.cost ≤ s.0.cost) r queue (at_most r.0.cost q.0.cost (first_decides _ _ greatest.0)) (least_of_greatest q queue greatest.1)

any_passed : {X : Type 0} (b t rest : Bool) (q : X → Bool) (x : X) (kept : List X) → ((b && t) || rest) ≡ true → (rest ≡ true → list_any q kept ≡ true) → q x ≡ t → list_any q (cond b (x ∷ kept) kept) ≡ true
any_passed true t rest q x kept is more same = elim (or_cases t rest is) [ inl here ↦ or_left _ _ (same ∙ here) | inr later ↦ or_right (q x) _ (more later) ]
any_passed false t rest q x kept is more same = more is

-- a filter keeps what passes another test too
pub list_any-filter : {X : Type 0} (p q : X → Bool) (xs : List X) → list_any (λ x. p x && q x) xs ≡ true → list_any q (filter p xs) ≡ true
list_any-filter p q [] is = is
list_any-filter p q (x ∷ xs) is = any_passed (p x) (q x) _ q x (filter p xs) is (list_any-filter p q xs) refl

pub list_any-map : {X Y : Type 0} (f : X → Y) (p : Y → Bool) (xs : List X) → list_any p (map f xs) ≡ list_any (λ x. p (f x)) xs
list_any-map f p [] = refl
list_any-map f p (x ∷ xs) = ap (λ b. p (f x) || b) (list_any-map f p xs)

-- a legal arc that leaves a junction is among those that leave it
pub list_any-out_of : (town : Town) (arc j : ℕ) (q : ℕ → Bool) → is_legal town arc ≡ true → tail_of town arc ≡ j → q arc ≡ true → list_any q (out_of town j) ≡ true
list_any-out_of town arc j q legal leaves is =
    let below = legal_below town arc legal in
    let n = 2 * length town.streets in
    let at : get_or (range_with_len 0 n) arc 0 ≡ arc = omega (arith, get_or-range_with_len 0 n arc 0 below) in
    let test : ℕ → Bool = λ a. is_legal town a && (tail_of town a == j && q a) in
    let passes : test arc ≡ true = and_from _ _ legal (and_from _ _ (eq-eqb _ _ leaves) is) in
    list_any-filter (λ a. tail_of town a == j) q (legal_arcs town)
    (list_any-filter (is_legal town) (λ a. tail_of town a == j && q a) (arcs town)
    (list_any_at test (arcs town) arc 0 (omega (arith, length-range_with_len 0 n)) (ap test at ∙ passes)))

-- and those that leave it are legal and leave it
pub out_of-legal : (town : Town) (j : ℕ) → All (λ arc. is_legal town arc ≡ true) (out_of town j)
out_of-legal town j = All-filter (λ arc. tail_of town arc == j) (λ arc. is_legal town arc ≡ true) (legal_arcs town) (filter_passes (is_legal town) (arcs town))

pub out_of-tail : (town : Town) (j : ℕ) → All (λ arc. tail_of town arc ≡ j) (out_of town j)
out_of-tail town j =
    All-weaker (λ arc. (tail_of town arc == j) ≡ true) (λ arc. tail_of town arc ≡ j) (λ arc is. eqb-true (tail_of town arc) j is) (out_of town j)
    (filter_passes (λ arc. tail_of town arc == j) (legal_arcs town))

-- there are at most two of each street
pub length-out_of : (town : Town) (j : ℕ) → length (out_of town j) ≤ 2 * length town.streets
length-out_of town j =
    omega (
      arith,
      length-filter (λ arc. tail_of town arc == j) (legal_arcs town),
      count_by-le-length (λ arc. tail_of town arc == j) (legal_arcs town),
      length-filter (is_legal town) (arcs town),
      count_by-le-length (is_legal town) (arcs town),
      length-range_with_len 0 (2 * length town.streets),
    )

-- ---- walks that go on

-- a walk that goes on along an arc
abbrev pub one_on : Town → Arrival → ℕ → Reverse Arrival
one_on town walk arc = record { 0 = along town walk arc }

-- along a legal arc one of the walks that go on leads to its head, where that isn't settled
pub is_queued-onward : (town : Town) (table : List (Option Arrival)) (walk : Arrival) (arc : ℕ) → is_legal town arc ≡ true → tail_of town arc ≡ walk.junction → leads_on town table arc ≡ true → is_queued (onward town table walk (out_of town walk.junction)) (head_of town arc) (walk.cost + cost_or_zero town arc) ≡ true
is_queued-onward town table walk arc legal leaves ahead =
    let j = head_of town arc in
    let cost = walk.cost + cost_or_zero town arc in
    let test : Reverse Arrival → Bool = λ q. q.0.junction == j && leb q.0.cost cost in
    let arcs = out_of town walk.junction in
    list_any-map (one_on town walk) test (filter (leads_on town table) arcs)
    ∙ list_any-filter (leads_on town table) (λ a. test (one_on town walk a)) arcs
    (list_any-out_of town arc walk.junction (λ a. leads_on town table a && test (one_on town walk a)) legal leaves
    (and_from _ _ ahead (and_from _ _ (eq-eqb j j refl) (le-leb cost cost (omega arith)))))

-- there are no more of them than arcs
pub length-onward : (town : Town) (table : List (Option Arrival)) (walk : Arrival) → length (onward town table walk (out_of town walk.junction)) ≤ 2 * length town.streets
length-onward town table walk =
    let arcs = out_of town walk.junction in
    omega (
      arith,
      length-map (filter (leads_on town table) arcs) (one_on town walk),
      length-filter (leads_on town table) arcs,
      count_by-le-length (leads_on town table) arcs,
      length-out_of town walk.junction,
    )

-- what all walks of a queue keep, and those that go on from one along legal arcs
pub All-onward : (town : Town) (table : List (Option Arrival)) (walk : Arrival) (P : Reverse Arrival → Type 0) (queue : List (Reverse Arrival)) → All P queue → ((arc : ℕ) → is_legal town arc ≡ true → tail_of town arc ≡ walk.junction → P (one_on town walk arc)) → All P (queue ++ onward town table walk (out_of town walk.junction))
All-onward town table walk P queue old new =
    let arcs = out_of town walk.junction in
    All-append P queue (onward town table walk arcs) old
    (All-map P (one_on town walk) (filter (leads_on town table) arcs)
    (All-filter (leads_on town table) (λ arc. P (one_on town walk arc)) arcs
    (λ k d below. new _ (out_of-legal town walk.junction k d below) (out_of-tail town walk.junction k d below))))

chosen : (town : Town) (walk : Arrival) (arc : ℕ) (settled : Bool) → map (one_on town walk) (cond (not settled) (arc ∷ []) []) ≡ cond settled [] (one_on town walk arc ∷ [])
chosen town walk arc true = refl
chosen town walk arc false = refl

-- one arc more: its walk is added, unless its head is settled
pub onward_more : (town : Town) (table : List (Option Arrival)) (walk next : Arrival) (arcs : List ℕ) (i : ℕ) (settled : Bool) → i < length arcs → next ≡ along town walk (get_or arcs i 0) → is_some (entry_at table next.junction) ≡ settled → onward town table walk (take (i + 1) arcs) ≡ onward town table walk (take i arcs) ++ cond settled [] (record { 0 = next } ∷ [])
onward_more town table walk next arcs i settled below is there =
    let arc = get_or arcs i 0 in
    let before = filter (leads_on town table) (take i arcs) in
    let same : is_some (entry_at table (head_of town arc)) ≡ settled = ap (λ w. is_some (entry_at table w.junction)) (sym is) ∙ there in
    ap (map (one_on town walk)) (filter_more (leads_on town table) arcs i 0 below ∙ ap (λ b. before ++ cond (not b) (arc ∷ []) []) same)
    ∙ map-append (one_on town walk) before (cond (not settled) (arc ∷ []) [])
    ∙ ap (λ l. map (one_on town walk) before ++ l) (chosen town walk arc settled ∙ ap (λ w. cond settled [] (record { 0 = w } ∷ [])) (sym is))
