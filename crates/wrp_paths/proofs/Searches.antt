-- The steps of a search keep what it keeps: a walk is passed over, or settles its junction.
use Rattle.std.proofs.Common.{◌≡◌, ℕ, ◌+◌, ◌*◌, ◌<◌, ◌≤◌, true, not, ◌&&◌, ◌||◌, ◌==◌, leb, List, [], ◌∷◌, ◌++◌, length, set, replicate, get_or, All, Option, Some, None, is_some, refl, sym, ap, ◌∙◌, subst, inl, inr, arith, length-set, length-append}
use Rattle.std.proofs.lemmas.List.{length-replicate, get_or_past, get_or-replicate}
use Rattle.std.proofs.lemmas.List.Sums.{count_by-le-length}
use Rattle.std.proofs.lemmas.Option.{none-some}
use Rattle.std.specs.List.Sorted.{IsPermutation}
use Rattle.std.specs.declared.cmp.Reverse.{Reverse}
use Rattle.std.proofs.lemmas.Bool.{and_parts, and_from, or_cases, or_left, or_right, leb-true, eqb-true, eq-eqb, cases_Bool, cases_lt}
use Rattle.std.proofs.lemmas.List.Elements.{All-nil, All-cons, All-head, All-tail, All-weaker}
use Rattle.std.proofs.lemmas.List.Folds.{list_any-append}
use Rattle.std.proofs.lemmas.List.Sorted.{All-permutation, list_any-IsPermutation, length_permutation}
use Rattle.wrp_town.specs.declared.town.Town.{Town}
use Rattle.wrp_town.specs.Arcs.{tail_of, head_of, is_legal, cost_or_zero}
use Rattle.wrp_town.proofs.TownLaws.{some_value, cost_or_zero-at_most, legal_below, head_of-below}
use Rattle.wrp_graph.specs.Stars.{out_of}
use Rattle.wrp_paths.specs.declared.arrival.Arrival.{Arrival}
use Rattle.wrp_paths.specs.Arrivals.{start_at, entry_at}
use Rattle.wrp_paths.specs.Search.{IsWalk, begins, goes_on, IsSearch, is_settled, is_queued, is_known, unsettled, onward, work_left}
use Rattle.wrp_paths.proofs.Tables.{entry_at-added, entry_at-cases, unsettled-added, IsWalk-kept, is_settled-from, is_settled-kept}
use Rattle.wrp_paths.proofs.Queues.{is_queued-onward, length-onward, All-onward}

-- the order of the queue doesn't matter
is_known-permutation : (table : List (Option Arrival)) (xs ys : List (Reverse Arrival)) (j cost : ℕ) → IsPermutation xs ys → is_known table xs j cost ≡ true → is_known table ys j cost ≡ true
is_known-permutation table xs ys j cost moved is =
    ap (λ b. is_settled table j cost || b) (sym (list_any-IsPermutation (λ q. q.0.junction == j && leb q.0.cost cost) xs ys moved)) ∙ is

pub IsSearch-permutation : (town : Town) (from : ℕ) (table : List (Option Arrival)) (xs ys : List (Reverse Arrival)) → IsPermutation xs ys → IsSearch town from table xs → IsSearch town from table ys
IsSearch-permutation town from table xs ys moved search = record {
  each = search.each;
  settled = search.settled;
  waiting = All-permutation (λ q. IsWalk town from table q.0) xs ys moved search.waiting;
  inside = All-permutation (λ q. q.0.junction < length town.junctions) xs ys moved search.inside;
  few = All-permutation (λ q. q.0.hops + unsettled table ≤ length town.junctions) xs ys moved search.few;
  cheap = All-permutation (λ q. q.0.cost ≤ 1000000000 * q.0.hops) xs ys moved search.cheap;
  ordered = λ j walk is. All-permutation (λ q. walk.cost ≤ q.0.cost) xs ys moved (search.ordered j walk is);
  begun = is_known-permutation table xs ys from 0 moved search.begun;
  followed = λ arc walk legal is. is_known-permutation table xs ys (head_of town arc) _ moved (search.followed arc walk legal is);
}

-- ---- a walk to a junction that is settled is passed over

is_known-passed : (town : Town) (from : ℕ) (table : List (Option Arrival)) (q : Reverse Arrival) (queue : List (Reverse Arrival)) (walk : Arrival) → IsSearch town from table (q ∷ queue) → entry_at table q.0.junction ≡ Some walk → (j cost : ℕ) → is_known table (q ∷ queue) j cost ≡ true → is_known table queue j cost ≡ true
is_known-passed town from table q queue walk search is j cost known =
    elim (or_cases (is_settled table j cost) _ known) [
      | inl settled ↦ or_left _ _ settled
      | inr queued ↦
          elim (or_cases _ (is_queued queue j cost) queued) [
            | inl first ↦
                let parts = and_parts (q.0.junction == j) (leb q.0.cost cost) first in
                let there : entry_at table j ≡ Some walk = ap (entry_at table) (sym (eqb-true _ _ parts.0)) ∙ is in
                let cheaper : walk.cost ≤ q.0.cost = All-head (λ r. walk.cost ≤ r.0.cost) q queue (search.ordered _ walk is) in
                or_left _ _ (is_settled-from table j cost walk there (omega (arith, leb-true _ _ parts.1)))
            | inr later ↦ or_right (is_settled table j cost) _ later
          ]
    ]

pub IsSearch-passed : (town : Town) (from : ℕ) (table : List (Option Arrival)) (q : Reverse Arrival) (queue : List (Reverse Arrival)) (walk : Arrival) → entry_at table q.0.junction ≡ Some walk → IsSearch town from table (q ∷ queue) → IsSearch town from table queue
IsSearch-passed town from table q queue walk is search =
    let passed = is_known-passed town from table q queue walk search is in
    record {
      each = search.each;
      settled = search.settled;
      waiting = All-tail (λ q. IsWalk town from table q.0) q queue search.waiting;
      inside = All-tail (λ q. q.0.junction < length town.junctions) q queue search.inside;
      few = All-tail (λ q. q.0.hops + unsettled table ≤ length town.junctions) q queue search.few;
      cheap = All-tail (λ q. q.0.cost ≤ 1000000000 * q.0.hops) q queue search.cheap;
      ordered = λ j other there. All-tail (λ q. other.cost ≤ q.0.cost) q queue (search.ordered j other there);
      begun = passed from 0 search.begun;
      followed = λ arc other legal there. passed (head_of town arc) _ (search.followed arc other legal there);
    }

-- ---- a walk settles its junction

more_times : (m n k : ℕ) → m + 1 ≡ n → m * k + k ≡ n * k
more_times m n k more = subst (λ x. m * k + k ≡ x * k) more (omega arith)

module _ (town : Town) (from : ℕ) (table : List (Option Arrival)) (walk : Arrival) (queue : List (Reverse Arrival)) where
  abbrev added : List (Option Arrival)
  added = set table walk.junction (Some walk)

  abbrev longer : List (Reverse Arrival)
  longer = queue ++ onward town added walk (out_of town walk.junction)

  abbrev popped : List (Reverse Arrival)
  popped = record { 0 = walk } ∷ queue

  pub settled_inside : IsSearch town from table popped → walk.junction < length table
  settled_inside search = omega (arith, search.each, All-head (λ q. q.0.junction < length town.junctions) (record { 0 = walk }) queue search.inside)

  is_known-settled : IsSearch town from table popped → entry_at table walk.junction ≡ None → (j cost : ℕ) → is_known table popped j cost ≡ true → is_known added longer j cost ≡ true
  is_known-settled search fresh j cost known =
      elim (or_cases (is_settled table j cost) _ known) [
        | inl settled ↦ or_left _ _ (is_settled-kept table walk.junction j walk cost fresh settled)
        | inr queued ↦
            elim (or_cases _ (is_queued queue j cost) queued) [
              | inl first ↦
                  let parts = and_parts (walk.junction == j) (leb walk.cost cost) first in
                  let there : entry_at added j ≡ Some walk = ap (entry_at added) (sym (eqb-true _ _ parts.0)) ∙ entry_at-added table walk.junction walk (settled_inside search) in
                  or_left _ _ (is_settled-from added j cost walk there (leb-true _ _ parts.1))
              | inr later ↦
                  or_right (is_settled added j cost) _
                  (list_any-append (λ q. q.0.junction == j && leb q.0.cost cost) queue (onward town added walk (out_of town walk.junction)) ∙ or_left _ _ later)
            ]
      ]

  settled_before : IsSearch town from table popped → (j : ℕ) (other : Arrival) → entry_at added j ≡ Some other → other.cost ≤ walk.cost
  settled_before search j other there =
      elim (entry_at-cases table walk.junction j walk other (settled_inside search) there) [
        | inl new ↦ omega (arith, ap (λ w. w.cost) new.1)
        | inr old ↦ All-head (λ q. other.cost ≤ q.0.cost) (record { 0 = walk }) queue (search.ordered j other old)
      ]

  is_known-onward : IsSearch town from table popped → (arc : ℕ) → is_legal town arc ≡ true → tail_of town arc ≡ walk.junction → is_known added longer (head_of town arc) (walk.cost + cost_or_zero town arc) ≡ true
  is_known-onward search arc legal leaves =
      let j = head_of town arc in
      let cost = walk.cost + cost_or_zero town arc in
      elim (cases_Bool (is_some (entry_at added j))) [
        | inl settled ↦
            let other = some_value (entry_at added j) settled in
            or_left _ _ (is_settled-from added j cost other.0 other.1 (omega (arith, settled_before search j other.0 other.1)))
        | inr ahead ↦
            or_right (is_settled added j cost) _
            (list_any-append (λ q. q.0.junction == j && leb q.0.cost cost) queue (onward town added walk (out_of town walk.junction))
            ∙ or_right (is_queued queue j cost) _ (is_queued-onward town added walk arc legal leaves (ap not ahead)))
      ]

  pub IsSearch-settled : IsSearch town from table popped → All (λ q. walk.cost ≤ q.0.cost) queue → entry_at table walk.junction ≡ None → IsSearch town from added longer
  IsSearch-settled search least fresh =
      let q : Reverse Arrival = record { 0 = walk } in
      let below = settled_inside search in
      let fewer = unsettled-added table walk.junction walk below fresh in
      let few = All-head (λ q. q.0.hops + unsettled table ≤ length town.junctions) q queue search.few in
      let cheap = All-head (λ q. q.0.cost ≤ 1000000000 * q.0.hops) q queue search.cheap in
      let is_walk = All-head (λ q. IsWalk town from table q.0) q queue search.waiting in
      let known = is_known-settled search fresh in
      record {
        each = length-set table walk.junction (Some walk) ∙ search.each;
        settled = λ j other there. elim (entry_at-cases table walk.junction j walk other below there) [
          | inl new ↦ (ap (λ w. w.junction) (sym new.1) ∙ sym new.0, subst (IsWalk town from added) new.1 (IsWalk-kept town from table walk.junction walk walk fresh is_walk))
          | inr old ↦ let s = search.settled j other old in (s.0, IsWalk-kept town from table walk.junction walk other fresh s.1)
        ];
        waiting = All-onward town added walk (λ q. IsWalk town from added q.0) queue
            (All-weaker (λ q. IsWalk town from table q.0) (λ q. IsWalk town from added q.0) (λ q. IsWalk-kept town from table walk.junction walk q.0 fresh) queue (All-tail (λ q. IsWalk town from table q.0) q queue search.waiting))
            (λ arc legal leaves. goes_on walk (entry_at-added table walk.junction walk below) legal leaves refl);
        inside = All-onward town added walk (λ q. q.0.junction < length town.junctions) queue (All-tail (λ q. q.0.junction < length town.junctions) q queue search.inside)
            (λ arc legal leaves. head_of-below town arc (legal_below town arc legal));
        few = All-onward town added walk (λ q. q.0.hops + unsettled added ≤ length town.junctions) queue
            (All-weaker (λ q. q.0.hops + unsettled table ≤ length town.junctions) (λ q. q.0.hops + unsettled added ≤ length town.junctions) (λ q h. omega (arith, fewer, h)) queue
            (All-tail (λ q. q.0.hops + unsettled table ≤ length town.junctions) q queue search.few))
            (λ arc legal leaves. omega (arith, fewer, few));
        cheap = All-onward town added walk (λ q. q.0.cost ≤ 1000000000 * q.0.hops) queue (All-tail (λ q. q.0.cost ≤ 1000000000 * q.0.hops) q queue search.cheap)
            (λ arc legal leaves. omega (arith, cheap, cost_or_zero-at_most town arc));
        ordered = λ j other there. elim (entry_at-cases table walk.junction j walk other below there) [
          | inl new ↦ subst (λ w. All (λ q. w.cost ≤ q.0.cost) longer) new.1 (All-onward town added walk (λ q. walk.cost ≤ q.0.cost) queue least (λ arc legal leaves. omega arith))
          | inr old ↦
              let all = search.ordered j other old in
              All-onward town added walk (λ q. other.cost ≤ q.0.cost) queue (All-tail (λ q. other.cost ≤ q.0.cost) q queue all)
              (λ arc legal leaves. omega (arith, All-head (λ q. other.cost ≤ q.0.cost) q queue all))
        ];
        begun = known from 0 search.begun;
        followed = λ arc other legal there. elim (entry_at-cases table walk.junction (tail_of town arc) walk other below there) [
          | inl new ↦ subst (λ w. is_known added longer (head_of town arc) (w.cost + cost_or_zero town arc) ≡ true) new.1 (is_known-onward search arc legal new.0)
          | inr old ↦ known (head_of town arc) _ (search.followed arc other legal old)
        ];
      }

  -- and less work is left
  pub work_left-less : IsSearch town from table popped → entry_at table walk.junction ≡ None → work_left town added longer < work_left town table popped
  work_left-less search fresh =
      let few = length-onward town added walk in
      let long = length-append queue (onward town added walk (out_of town walk.junction)) in
      omega (arith, more_times (unsettled added) (unsettled table) (2 * length town.streets + 1) (unsettled-added table walk.junction walk (settled_inside search) fresh))

  -- the same for the queue as it is then, and the arcs as they were lent
  module _ (lent : Town) (arcs : List ℕ) (new : List (Reverse Arrival)) (same : lent ≡ town) (lent_arcs : arcs ≡ out_of town walk.junction) (moved : IsPermutation (queue ++ onward lent added walk arcs) new) where
    moved_from : IsPermutation longer new
    moved_from = subst (λ t. IsPermutation (queue ++ onward t added walk (out_of town walk.junction)) new) same (subst (λ l. IsPermutation (queue ++ onward lent added walk l) new) lent_arcs moved)

    pub settles : IsSearch town from table popped → All (λ q. walk.cost ≤ q.0.cost) queue → entry_at table walk.junction ≡ None → IsSearch town from added new
    settles kept least fresh = IsSearch-permutation town from added longer new moved_from (IsSearch-settled kept least fresh)

    pub works : IsSearch town from table popped → entry_at table walk.junction ≡ None → work_left town added new < work_left town table popped
    works kept fresh = omega (arith, work_left-less kept fresh, length_permutation longer new moved_from)

-- ---- the search begins

entry_at-empty : (n j : ℕ) → entry_at (replicate n None) j ≡ None
entry_at-empty n j =
    elim (cases_lt j n) [
      | inl below ↦ get_or-replicate n j None None below
      | inr past ↦ get_or_past (replicate n None) j None (omega (arith, length-replicate {A = Option Arrival} n None))
    ]

single : (town : Town) (from : ℕ) → from < length town.junctions → IsSearch town from (replicate (length town.junctions) None) (record { 0 = start_at from } ∷ [])
single town from below =
    let n = length town.junctions in
    let table : List (Option Arrival) = replicate n None in
    let q : Reverse Arrival = record { 0 = start_at from } in
    let long = length-replicate {A = Option Arrival} n None in
    record {
      each = long;
      settled = λ j walk is. absurd (none-some walk (sym (entry_at-empty n j) ∙ is));
      waiting = All-cons (λ r. IsWalk town from table r.0) q [] (begins refl refl refl) (All-nil (λ r. IsWalk town from table r.0));
      inside = All-cons (λ r. r.0.junction < n) q [] below (All-nil (λ r. r.0.junction < n));
      few = All-cons (λ r. r.0.hops + unsettled table ≤ n) q [] (omega (arith, count_by-le-length (λ entry. not (is_some entry)) table)) (All-nil (λ r. r.0.hops + unsettled table ≤ n));
      cheap = All-cons (λ r. r.0.cost ≤ 1000000000 * r.0.hops) q [] (omega arith) (All-nil (λ r. r.0.cost ≤ 1000000000 * r.0.hops));
      ordered = λ j walk is. absurd (none-some walk (sym (entry_at-empty n j) ∙ is));
      begun = or_right (is_settled table from 0) _ (or_left _ _ (and_from _ _ (eq-eqb from from refl) refl));
      followed = λ arc walk legal is. absurd (none-some walk (sym (entry_at-empty n _) ∙ is));
    }

pub IsSearch-start : (town : Town) (from : ℕ) (queue : List (Reverse Arrival)) → from < length town.junctions → IsPermutation (record { 0 = start_at from } ∷ []) queue → IsSearch town from (replicate (length town.junctions) None) queue
IsSearch-start town from queue below moved = IsSearch-permutation town from _ _ queue moved (single town from below)

-- the junction of the walk that stands first
abbrev pub first_junction : List (Reverse Arrival) → ℕ
first_junction queue = (get_or queue 0 (record { 0 = start_at 0 })).0.junction

pub first_junction-single : (q : Reverse Arrival) (queue : List (Reverse Arrival)) → IsPermutation (q ∷ []) queue → first_junction queue ≡ q.0.junction
first_junction-single q queue moved =
    All-permutation (λ r. r.0.junction ≡ q.0.junction) (q ∷ []) queue moved (All-cons (λ r. r.0.junction ≡ q.0.junction) q [] refl (All-nil (λ r. r.0.junction ≡ q.0.junction))) 0 _
    (omega (arith, length_permutation (q ∷ []) queue moved))
