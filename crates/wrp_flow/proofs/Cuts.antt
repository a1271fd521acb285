-- Sets that no side with room leaves are least cuts; flows and sets as lists.
use Rattle.std.proofs.Common.{◌≡◌, ℕ, ◌+◌, ◌*◌, ◌<◌, ◌≤◌, ◌^◌, Bool, true, false, cond, ◌&&◌, not, ◌==◌, ℤ, pos, List, length, map, filter, get_or, refl, sym, ap, ◌∙◌, subst, inl, inr, ◌⊎◌, arith, eq-eqb, Option}
use Rattle.std.specs.Prelude.{◌≤ℤ◌, unsigned_abs}
use Rattle.std.specs.List.{range_with_len}
use Rattle.std.proofs.lemmas.Bool.{cases_eq, cases_Bool, ne_eqb, true≢false, false_from_ne_true}
use Rattle.std.proofs.lemmas.List.FromFn.{length-map-range_with_len, get_or-map-range_with_len}
use Rattle.wrp_sums.proofs.Integers.{pos-≤ℤ}
use Rattle.wrp_rules.specs.Ranges.{is_set}
use Rattle.wrp_rules.specs.Rules.{all_below}
use Rattle.wrp_rules.specs.Sets.{is_in}
use Rattle.wrp_webs.specs.Webs.{outside}
use Rattle.wrp_webs.specs.Nets.{sum_at_end}
use Rattle.wrp_webs.proofs.SumsBelow.{same_sum, least_sum}
use Rattle.wrp_webs.proofs.Found.{listed_is}
use Rattle.wrp_webs.proofs.MinOdd.{passing_below}
use Rattle.wrp_flow.specs.declared.net.Net.{Net}
use Rattle.wrp_flow.specs.declared.reach.Mark.{Mark}
use Rattle.wrp_flow.specs.Flows.{tail_in, head_in, capacity_in, IsNet, ArePoles, leaving_in, IsFlow, IsNetFlow, IsFlowList, IsSideOf}
use Rattle.wrp_flow.specs.Sides.{end_in, twin_of, IsResidual}
use Rattle.wrp_flow.specs.Searches.{is_marked, IsClosed, AreReached}
use Rattle.wrp_flow.specs.Cuts.{IsTurned}
use Rattle.wrp_flow.proofs.Flows.{flow_bounds, full_cut}
use Rattle.wrp_flow.proofs.Pushing.{carried}
use Rattle.wrp_flow.proofs.Sides.{begin_even, begin_odd, end_even, end_odd, begin_twin, end_twin, twin_below, twin_twin}

module _ (net : Net) (is : IsNet net) (s t : ℕ) (poles : ArePoles net s t) where
  -- a set that no side with room leaves is a least cut
  pub closed_cut : (value : ℕ) (room : List ℕ) → IsResidual net s t value room → (set : ℕ → Bool) → set s ≡ true → set t ≡ false → IsClosed net room set → leaving_in net set ≡ value
  closed_cut value room residual set holds out closed =
      full_cut net.nodes (length net.arcs) (tail_in net) (head_in net) (capacity_in net) (carried room) s t value is.tails is.heads poles.source residual.flow set holds out
      (λ a below in_tail no_head. full a below in_tail no_head (cases_eq (get_or room (2 * a) 0) 0))
      (λ a below no_tail in_head. empty a below no_tail in_head (cases_eq (carried room a) 0))
    where
      full : (a : ℕ) → a < length net.arcs → set (tail_in net a) ≡ true → set (head_in net a) ≡ false → (get_or room (2 * a) 0 ≡ 0) ⊎ (get_or room (2 * a) 0 ≡ 0 → ⊥) → carried room a ≡ capacity_in net a
      full a below in_tail no_head (inl none) = omega (arith, residual.shared a below)
      full a below in_tail no_head (inr some) =
          absurd (true≢false (sym (closed (2 * a) (omega arith) (ap set (begin_even net a) ∙ in_tail) (omega arith)) ∙ ap set (end_even net a) ∙ no_head))

      empty : (a : ℕ) → a < length net.arcs → set (tail_in net a) ≡ false → set (head_in net a) ≡ true → (carried room a ≡ 0) ⊎ (carried room a ≡ 0 → ⊥) → carried room a ≡ 0
      empty a below no_tail in_head (inl none) = none
      empty a below no_tail in_head (inr some) =
          absurd (true≢false (sym (closed (2 * a + 1) (omega arith) (ap set (begin_odd net a) ∙ in_head) (omega arith)) ∙ ap set (end_odd net a) ∙ no_tail))

  pub all_leave : (value : ℕ) (flow : ℕ → ℕ) → IsNetFlow net s t value flow → (set : ℕ → Bool) → set s ≡ true → set t ≡ false → value ≤ leaving_in net set
  all_leave value flow flows set holds out =
      flow_bounds net.nodes (length net.arcs) (tail_in net) (head_in net) (capacity_in net) flow s t value is.tails is.heads poles.source flows set holds out

  pub value_small : (value : ℕ) (room : List ℕ) → IsResidual net s t value room → value < 2 ^ 100
  value_small value room residual =
      let alone : ℕ → Bool = λ j. j == s in
      omega (
        arith,
        all_leave value (carried room) residual.flow alone (eq-eqb s s refl) (ne_eqb t s (λ e. poles.differ (sym e))),
        least_sum (λ a. cond (alone (tail_in net a) && not (alone (head_in net a))) (capacity_in net a) 0) (capacity_in net) (length net.arcs) (λ a below. at_most (alone (tail_in net a) && not (alone (head_in net a))) (capacity_in net a)),
        is.small,
      )
    where
      at_most : (b : Bool) (x : ℕ) → cond b x 0 ≤ x
      at_most true x = omega arith
      at_most false x = omega arith

-- ---- turned sides

pub turned_back : (net : Net) (old new : List ℕ) → IsTurned net old new → IsTurned net new old
turned_back net old new is = record {
  long = sym is.long;
  is = λ side inside. ap (λ (k : ℕ). get_or old k 0) (sym (twin_twin side)) ∙ sym (is.is (twin_of side) (twin_below net side inside));
}

-- where sides are turned, what is outside is closed
pub closed_outside : (net : Net) (old new : List ℕ) → IsTurned net old new → (set : ℕ → Bool) → IsClosed net old set → IsClosed net new (outside set)
closed_outside net old new turned set closed side inside out some = by (cases_Bool (set (end_in net side)))
  where
    by : (set (end_in net side) ≡ true) ⊎ (set (end_in net side) ≡ false) → not (set (end_in net side)) ≡ true
    by (inr none) = ap not none
    by (inl has) =
        let there = closed (twin_of side) (twin_below net side inside) (ap set (begin_twin net side) ∙ has) (omega (arith, turned.is side inside, some)) in
        absurd (true≢false (sym out ∙ ap not (sym (ap set (end_twin net side)) ∙ there)))

-- the source isn't reached from the sink
pub source_apart : (net : Net) (s t : ℕ) (old new : List ℕ) (near far : List (Option Mark)) → IsTurned net old new → AreReached net old s near → IsClosed net old (is_marked near) → is_marked near t ≡ false → AreReached net new t far → is_marked far s ≡ false
source_apart net s t old new near far turned reached closed out from_t =
    false_from_ne_true (is_marked far s) (λ has. true≢false (sym (from_t.within (outside (is_marked near)) (ap not out) (closed_outside net old new turned (is_marked near) closed) s has) ∙ ap not reached.begun))

-- ---- lists

pub listed_leaving : (net : Net) → IsNet net → (set : ℕ → Bool) (other : ℕ → Bool) → ((j : ℕ) → j < net.nodes → other j ≡ set j) → leaving_in net other ≡ leaving_in net set
listed_leaving net is set other same =
    same_sum (λ a. cond (other (tail_in net a) && not (other (head_in net a))) (capacity_in net a) 0) (λ a. cond (set (tail_in net a) && not (set (head_in net a))) (capacity_in net a) 0) (length net.arcs)
    (λ a below. ap (λ (b : Bool). cond (b && not (other (head_in net a))) (capacity_in net a) 0) (same (tail_in net a) (is.tails a below))
    ∙ ap (λ (b : Bool). cond (set (tail_in net a) && not b) (capacity_in net a) 0) (same (head_in net a) (is.heads a below)))

pub is_side : (net : Net) (s t : ℕ) (test : ℕ → Bool) (set : List ℕ) → s < net.nodes → t < net.nodes → set ≡ filter test (range_with_len 0 net.nodes) → is_set set ≡ true → test s ≡ true → test t ≡ false → IsSideOf net s t set
is_side net s t test set s_below t_below lists ascends holds out = record {
  is_set = ascends;
  below = subst (λ (xs : List ℕ). all_below net.nodes xs ≡ true) (sym lists) (passing_below test 0 net.nodes net.nodes (omega arith));
  holds = ap (λ (xs : List ℕ). is_in xs s) lists ∙ listed_is test net.nodes s s_below ∙ holds;
  leaves_out = ap (λ (xs : List ℕ). is_in xs t) lists ∙ listed_is test net.nodes t t_below ∙ out;
}

pub listed : (test : ℕ → Bool) (n : ℕ) (set : List ℕ) → set ≡ filter test (range_with_len 0 n) → (j : ℕ) → j < n → is_in set j ≡ test j
listed test n set lists j below = ap (λ (xs : List ℕ). is_in xs j) lists ∙ listed_is test n j below

same_flow : (nodes n : ℕ) (tail head capacity f g : ℕ → ℕ) (s t value : ℕ) → ((a : ℕ) → a < n → f a ≡ g a) → IsFlow nodes n tail head capacity f s t value → IsFlow nodes n tail head capacity g s t value
same_flow nodes n tail head capacity f g s t value same is = record {
  within = λ a below. omega (arith, is.within a below, same a below);
  kept = λ j below no_s no_t. sym (sums tail j) ∙ is.kept j below no_s no_t ∙ sums head j;
  worth = omega (arith, sums tail s, sums head s, is.worth);
}
  where
    sums : (end : ℕ → ℕ) (j : ℕ) → sum_at_end n end f j ≡ sum_at_end n end g j
    sums end j = same_sum (λ a. cond (end a == j) (f a) 0) (λ a. cond (end a == j) (g a) 0) n (λ a below. ap (λ (x : ℕ). cond (end a == j) x 0) (same a below))

pub flow_list : (net : Net) (s t value : ℕ) (room : List ℕ) (flow : List ℤ) → IsResidual net s t value room → flow ≡ map (λ a. pos (carried room a)) (range_with_len 0 (length net.arcs)) → IsFlowList net s t (pos value) flow
flow_list net s t value room flow residual lists = record {
  each = ap length lists ∙ length-map-range_with_len (λ a. pos (carried room a)) 0 (length net.arcs);
  low = λ a below. subst (λ (z : ℤ). pos 0 ≤ℤ z) (sym (reads a below)) (pos-≤ℤ 0 (carried room a) (omega arith));
  value_low = pos-≤ℤ 0 value (omega arith);
  is = same_flow net.nodes (length net.arcs) (tail_in net) (head_in net) (capacity_in net) (carried room) (λ a. unsigned_abs (get_or flow a (pos 0))) s t value
      (λ a below. ap unsigned_abs (sym (reads a below))) residual.flow;
}
  where
    reads : (a : ℕ) → a < length net.arcs → get_or flow a (pos 0) ≡ pos (carried room a)
    reads a below = ap (λ (xs : List ℤ). get_or xs a (pos 0)) lists ∙ get_or-map-range_with_len (λ a. pos (carried room a)) 0 (length net.arcs) a a (pos 0) below (omega arith)

-- ---- the side of the sink

pub is_turned_at : (net : Net) (old new a b : List ℕ) → a ≡ old → b ≡ new → IsTurned net old new → IsTurned net a b
is_turned_at net old new a b first second is = subst (λ (x : List ℕ). IsTurned net x b) (sym first) (subst (λ (y : List ℕ). IsTurned net old y) (sym second) is)

pub sink_cut : (net : Net) → IsNet net → (s t : ℕ) → ArePoles net s t → (value : ℕ) (old new : List ℕ) (far : List (Option Mark)) → IsResidual net s t value old → IsTurned net old new → AreReached net new t far → is_marked far s ≡ false → IsClosed net new (is_marked far)
    → leaving_in net (outside (is_marked far)) ≡ value
sink_cut net is s t poles value old new far residual turned reached apart closed =
    closed_cut net is s t poles value old residual (outside (is_marked far)) (ap not apart) (ap not reached.begun) (closed_outside net new old (turned_back net old new turned) (is_marked far) closed)
