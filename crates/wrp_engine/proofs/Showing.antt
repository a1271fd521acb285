-- What is told of an open node stands behind it.
use Rattle.std.proofs.Common.{◌≡◌, ℕ, ◌*◌, ◌<◌, ◌≤◌, Bool, true, false, cond, List, [], ◌∷◌, ◌++◌, Option, Some, None, Result, Ok, Err, ap, refl, sym, ◌∙◌, subst, inl, inr, ◌⊎◌, arith, mul-le-mul_right}
use Rattle.std.specs.Prelude.{IfSome, IfOk, OnOk, pos, ◌<ℤ◌}
use Rattle.std.specs.List.{count_by}
use Rattle.std.specs.Option.{option_to_list}
use Rattle.std.proofs.lemmas.Bool.{true≢false}
use Rattle.std.proofs.lemmas.List.{append-nil}
use Rattle.std.proofs.lemmas.List.Sums.{sum_by-append}
use Rattle.wrp_town.specs.declared.town.Town.{Town}
use Rattle.wrp_town.specs.declared.street.Step.{Step}
use Rattle.wrp_town.specs.Walks.{walk_cost}
use Rattle.wrp_rules.specs.declared.record.Record.{Record}
use Rattle.wrp_rules.specs.declared.record.Record.TheVariants.{Bound, Empty, Tour}
use Rattle.wrp_rules.specs.Rows.{Row, row_of}
use Rattle.wrp_rules.specs.Nodes.{Node, Standing, standing, after, bound_at, empty_value}
use Rattle.wrp_rules.specs.Rules.{is_cut, rows_are_there}
use Rattle.wrp_rules.specs.Lists.{is_valid}
use Rattle.wrp_writer.specs.Limits.{is_writable}
use Rattle.wrp_laws.specs.Points.{price}
use Rattle.wrp_progress.specs.Progress.{GoesOn, HasNoLabels, IsOpenIn, IsDoneIn, node_in, node_count, use_cost}
use Rattle.wrp_progress.proofs.Growing.{standing_more}
use Rattle.wrp_progress.proofs.Keeping.{goes_on_keeps_nodes}
use Rattle.wrp_progress.proofs.Branching.{empty_follows, emptied}
use Rattle.wrp_rows.specs.declared.point.Point.{Point}
use Rattle.wrp_odd.specs.Points.{denominator_of, numbers_of}
use Rattle.wrp_box.specs.Records.{IsBoundOrEmpty, IsShownRecord}
use Rattle.wrp_box.specs.Relaxing.{IsPointIn}
use Rattle.wrp_point_tour.specs.PointTours.{IsTourPoint, CostsAtMost}
use Rattle.wrp_licence.specs.Hard.{IsHard}
use Rattle.wrp_licence.proofs.Ending.{hard_kept}
use Rattle.wrp_licence.proofs.Offering.{bound_joined, bound_refused, tour_keeps}
use Rattle.wrp_tour.specs.Tours.{HasTour}
use Rattle.wrp_keep.specs.Keeps.{KeepState}
use Rattle.wrp_engine.specs.declared.fault.SearchFault.{SearchFault}
use Rattle.wrp_engine.specs.Searches.{Search, Advances, IsGoing, Leaves, IsOpenAt, now, at_node}
use Rattle.wrp_engine.specs.Offers.{Offers, OffersSome, AddsAtMost, AddsAtMostSome, AddsTourAtMost, HasUpper}
use Rattle.wrp_engine.specs.Additions.{AddsCuts}
use Rattle.wrp_engine.specs.Turns.{HasTourNear}
use Rattle.wrp_engine.specs.Sights.{KeepsBox, IsShownOf, IsTold}
use Rattle.wrp_engine.proofs.Adding.{cuts_free, cuts_none, cuts_then, cuts_weaker}
use Rattle.wrp_engine.proofs.Ending.{no_labels}

pub may_be_told : (node : ℕ) (shown : Option Record) → IfSome shown (IsShownRecord node) → IfSome shown (λ r. is_writable r ≡ true)
may_be_told node None written = record {}
may_be_told node (Some item) written = written.writable

-- ---- what is added

pub tour_adds : (old new : KeepState) → AddsTourAtMost old new → AddsCuts 0 1 1 old new
tour_adds old new (inl (cost, steps, joins)) = cuts_free 1 old new (Tour cost steps) (omega arith) refl refl (λ entry added. record {}) (inl joins)
tour_adds old new (inr same) = cuts_none 1 1 old new same

shown_free : (node : ℕ) (old new : KeepState) (item : Record) → IsBoundOrEmpty node item → AddsAtMost item old new → AddsCuts 0 1 0 old new
shown_free node old new (Bound n den mult) shows adds = cuts_free 0 old new (Bound n den mult) (omega arith) refl refl (λ entry added. record {}) adds
shown_free node old new (Empty n mult) shows adds = cuts_free 0 old new (Empty n mult) (omega arith) refl refl (λ entry added. record {}) adds
shown_free node old new item shows adds = absurd shows

pub shown_adds : (node : ℕ) (old new : KeepState) (shown : Option Record) → IfSome shown (IsShownRecord node) → AddsAtMostSome shown old new → AddsCuts 0 1 0 old new
shown_adds node old new None written same = cuts_none 1 0 old new same
shown_adds node old new (Some item) written adds = shown_free node old new item written.shows adds

-- a shown record alone, or a tour behind it
pub shown_alone : (node : ℕ) (old new : KeepState) (shown : Option Record) → IfSome shown (IsShownRecord node) → AddsAtMostSome shown old new → AddsCuts 0 2 1 old new
shown_alone node old new shown written adds = cuts_weaker 0 0 1 2 0 1 old new (omega arith) (omega arith) (omega arith) (shown_adds node old new shown written adds)

pub shown_with_tour : (node : ℕ) (a b c : KeepState) (shown : Option Record) → b.town ≡ a.town → IfSome shown (IsShownRecord node) → AddsAtMostSome shown a b → AddsTourAtMost b c → AddsCuts 0 2 1 a c
shown_with_tour node a b c shown town written adds tour = cuts_then 0 0 1 1 0 1 a b c town (shown_adds node a b shown written adds) (tour_adds b c tour)

-- ---- the rows and the box stay

bare_cuts : (items : List Record) (item : Record) → is_cut item ≡ false → count_by is_cut (items ++ item ∷ []) ≡ count_by is_cut items
bare_cuts items item bare =
    omega (
      arith,
      sum_by-append (λ r. cond (is_cut r) 1 0) items (item ∷ []),
      sum_by-append (λ r. cond (is_cut r) 1 0) (item ∷ []) [],
      ap {B = ℕ} (λ (t : Bool). cond t 1 0) bare,
    )

module _ (town : Town) (old new : List Record) (goes : GoesOn town old new) (node : ℕ) (there : node < node_count town old) where
  abbrev s : Standing
  s = standing town old

  boxed : (standing town new).rows ≡ s.rows → count_by is_cut (standing town new).records ≡ count_by is_cut s.records → KeepsBox town node s (standing town new)
  boxed rows cuts = record {
    rows = rows;
    cuts = cuts;
    lo = (goes_on_keeps_nodes town old new goes).lo node there;
    hi = (goes_on_keeps_nodes town old new goes).hi node there;
  }

  same_box : new ≡ old → KeepsBox town node s (standing town new)
  same_box same = boxed (ap (λ (rs : List Record). (standing town rs).rows) same) (ap (λ (rs : List Record). count_by is_cut (standing town rs).records) same)

  -- behind a record that has no row and is no cut
  bare_box : (item : Record) → option_to_list (row_of town s.rows item) ≡ [] → is_cut item ≡ false → (new ≡ old ++ item ∷ []) ⊎ (new ≡ old) → KeepsBox town node s (standing town new)
  bare_box item row cut (inr same) = same_box same
  bare_box item row cut (inl joins) =
      let is : standing town new ≡ after town s item = ap (standing town) joins ∙ standing_more town old item in
      boxed
      (ap (λ (t : Standing). t.rows) is ∙ ap (λ (rs : List Row). s.rows ++ rs) row ∙ append-nil s.rows)
      (ap (λ (t : Standing). count_by is_cut t.records) is ∙ bare_cuts s.records item cut)

  tour_box : ((cost : ℕ) × (steps : List Step) × (new ≡ old ++ Tour cost steps ∷ [])) ⊎ (new ≡ old) → KeepsBox town node s (standing town new)
  tour_box (inl (cost, steps, joins)) = bare_box (Tour cost steps) refl refl (inl joins)
  tour_box (inr same) = same_box same

  item_box : (other : ℕ) (item : Record) → IsBoundOrEmpty other item → (new ≡ old ++ item ∷ []) ⊎ (new ≡ old) → KeepsBox town node s (standing town new)
  item_box other (Bound n den mult) shows adds = bare_box (Bound n den mult) refl refl adds
  item_box other (Empty n mult) shows adds = bare_box (Empty n mult) refl refl adds
  item_box other item shows adds = absurd shows

box_then : (town : Town) (node : ℕ) (s t u : Standing) → KeepsBox town node s t → KeepsBox town node t u → KeepsBox town node s u
box_then town node s t u one two = record {
  rows = two.rows ∙ one.rows;
  cuts = two.cuts ∙ one.cuts;
  lo = two.lo ∙ one.lo;
  hi = two.hi ∙ one.hi;
}

module _ (a b : Search) (goes : Advances a b) (node : ℕ) (there : node < node_count a.keep.town a.keep.records) where
  shown_list_box : (shown : Option Record) → IfSome shown (IsShownRecord node) → AddsAtMostSome shown a.keep b.keep → KeepsBox a.keep.town node (now a.keep) (standing a.keep.town b.keep.records)
  shown_list_box None written same = same_box a.keep.town a.keep.records b.keep.records goes.list node there same
  shown_list_box (Some item) written adds = item_box a.keep.town a.keep.records b.keep.records goes.list node there node item written.shows adds

  pub shown_box : (shown : Option Record) → IfSome shown (IsShownRecord node) → AddsAtMostSome shown a.keep b.keep → KeepsBox a.keep.town node (now a.keep) (now b.keep)
  shown_box shown written adds =
      subst (λ (t : Town). KeepsBox a.keep.town node (now a.keep) (standing t b.keep.records)) (sym goes.town) (shown_list_box shown written adds)

  tour_list_box : AddsTourAtMost a.keep b.keep → KeepsBox a.keep.town node (now a.keep) (standing a.keep.town b.keep.records)
  tour_list_box adds = tour_box a.keep.town a.keep.records b.keep.records goes.list node there adds

  there_still : node < node_count b.keep.town b.keep.records
  there_still =
      subst (λ (t : Town). node < node_count t b.keep.records) (sym goes.town)
      (omega (arith, there, (goes_on_keeps_nodes a.keep.town a.keep.records b.keep.records goes.list).there))

  -- an open node was open before
  opened_before : IsOpenAt b.keep node → IsOpenAt a.keep node
  opened_before opened = record {
    there = there;
    told = (goes_on_keeps_nodes a.keep.town a.keep.records b.keep.records goes.list).opens node there
        (subst (λ (t : Town). IsOpenIn t b.keep.records node) goes.town opened).told;
  }

pub shown_with_tour_box : (a b c : Search) (node : ℕ) (shown : Option Record) → IsOpenAt a.keep node → IfSome shown (IsShownRecord node) → Advances a b → AddsAtMostSome shown a.keep b.keep → Advances b c → AddsTourAtMost b.keep c.keep
    → KeepsBox a.keep.town node (now a.keep) (now c.keep)
shown_with_tour_box a b c node shown opened written one adds two tour =
    box_then a.keep.town node (now a.keep) (now b.keep) (now c.keep) (shown_box a b one node opened.there shown written adds)
    (subst (λ (t : Town). KeepsBox t node (now b.keep) (now c.keep)) one.town
    (subst (λ (t : Town). KeepsBox b.keep.town node (now b.keep) (standing t c.keep.records)) (sym two.town)
    (tour_list_box b c two node (there_still a b one node opened.there) tour)))

-- ---- what is told holds

-- the node's bound is the point's price, or the node is hard
abbrev IsPriced : Town → List Record → ℕ → Option Point → Type 0
IsPriced town records node None = IsHard town (standing town records) node
IsPriced town records node (Some point) =
    (price town (denominator_of point) (numbers_of point) ≡ (node_in town records node).bound) ⊎ IsHard town (standing town records) node

module _ (a b : KeepState) (node : ℕ) (valid : is_valid a.town a.records ≡ true) (unlabelled : HasNoLabels a.records) (opened : IsOpenAt a node) where
  priced : (point : Point) (den : ℕ) (mult : List (ℕ × ℕ)) → IsPointIn a.town (now a) (at_node a node) point → is_writable (Bound node den mult) ≡ true → rows_are_there (now a) mult ≡ true
      → bound_at a.town (now a) node den mult ≡ price a.town (denominator_of point) (numbers_of point) → (joined : Bool) → Offers (Bound node den mult) a b joined → price a.town (denominator_of point) (numbers_of point) ≡ (node_in a.town b.records node).bound
  priced point den mult within writable there value true offers =
      sym (ap (λ (rs : List Record). (node_in a.town rs node).bound) offers.1 ∙ bound_joined a.town a.records node den mult (denominator_of point) (numbers_of point) value opened.there)
  priced point den mult within writable there value false offers =
      sym
      (ap (λ (rs : List Record). (node_in a.town rs node).bound) offers.1
      ∙ bound_refused a.town a.records node den mult (denominator_of point) (numbers_of point) value valid unlabelled opened writable there within.of_node (λ none. offers.0 none))

  emptied_so : (mult : List (ℕ × ℕ)) → is_writable (Empty node mult) ≡ true → rows_are_there (now a) mult ≡ true → pos 0 <ℤ empty_value a.town (now a).rows (at_node a node) mult → (joined : Bool) → Offers (Empty node mult) a b joined
      → IsDoneIn a.town b.records node
  emptied_so mult writable there value true offers = subst (λ (rs : List Record). IsDoneIn a.town rs node) (sym offers.1) (emptied a.town a.records node opened mult)
  emptied_so mult writable there value false offers = absurd (offers.0 (empty_follows a.town a.records unlabelled node mult writable opened there value))

  is_offered : (shown : Option Record) (item : Record) (joined : Bool) → shown ≡ Some item → OffersSome shown a b joined → Offers item a b joined
  is_offered shown item joined is offers = subst (λ (o : Option Record). OffersSome o a b joined) is offers

  is_writable_item : (shown : Option Record) (item : Record) → shown ≡ Some item → IfSome shown (IsShownRecord node) → is_writable item ≡ true
  is_writable_item shown item is written = (subst (λ (o : Option Record). IfSome o (IsShownRecord node)) is written).writable

  module _ (box : KeepsBox a.town node (now a) (standing a.town b.records)) (shown : Option Record) (joined : Bool) (written : IfSome shown (IsShownRecord node)) (offers : OffersSome shown a b joined) (open_still : IsOpenIn a.town b.records node) where
    hard_still : IsHard a.town (now a) node → IsHard a.town (standing a.town b.records) node
    hard_still hard = hard_kept a.town (now a) (standing a.town b.records) node box.rows box.lo box.hi hard

    told_priced : (point : Option Point) → IfSome point (IsPointIn a.town (now a) (at_node a node)) → IsShownOf a.town (now a) node point shown → IsPriced a.town b.records node point
    told_priced None within (inr hard) = hard_still hard
    told_priced (Some point) within (inr hard) = inr (hard_still hard)
    told_priced None within (inl (item, is, tells)) =
        let done = emptied_so tells.mult
        (subst (λ (r : Record). is_writable r ≡ true) tells.is (is_writable_item shown item is written)) tells.there tells.value joined
        (subst (λ (r : Record). Offers r a b joined) tells.is (is_offered shown item joined is offers)) in
        absurd (true≢false (sym open_still.told ∙ done.told))
    told_priced (Some point) within (inl (item, is, tells)) =
        inl
        (priced point tells.den tells.mult within
        (subst (λ (r : Record). is_writable r ≡ true) tells.is (is_writable_item shown item is written)) tells.there tells.value joined
        (subst (λ (r : Record). Offers r a b joined) tells.is (is_offered shown item joined is offers)))

-- a tour keeps the price
priced_still : (town : Town) (old new : List Record) (node : ℕ) (point : Point) → KeepsBox town node (standing town old) (standing town new) → ((cost : ℕ) × (steps : List Step) × (new ≡ old ++ Tour cost steps ∷ [])) ⊎ (new ≡ old)
    → IsPriced town old node (Some point) → IsPriced town new node (Some point)
priced_still town old new node point box adds (inr hard) = inr (hard_kept town (standing town old) (standing town new) node box.rows box.lo box.hi hard)
priced_still town old new node point box (inl (cost, steps, joins)) (inl price_is) =
    inl (price_is ∙ sym (ap (λ (rs : List Record). (node_in town rs node).bound) joins ∙ ap (λ (n : Node). n.bound) (tour_keeps town old cost node steps)))
priced_still town old new node point box (inr same) (inl price_is) = inl (price_is ∙ sym (ap (λ (rs : List Record). (node_in town rs node).bound) same))

module _ (a b : Search) (node : ℕ) (going : IsGoing a) (tour : HasTour a.keep.town) (opened : IsOpenAt a.keep node) (shown : Option Record) (written : IfSome shown (IsShownRecord node)) (goes : Advances a b) (adds : AddsAtMostSome shown a.keep b.keep) (joined : Bool) (offers : OffersSome shown a.keep b.keep joined) where
  shown_priced : (point : Option Point) → IfSome point (IsPointIn a.keep.town (now a.keep) (at_node a.keep node)) → IsShownOf a.keep.town (now a.keep) node point shown → IsOpenAt b.keep node → IsPriced b.keep.town b.keep.records node point
  shown_priced point within told open_still =
      subst (λ (t : Town). IsPriced t b.keep.records node point) (sym goes.town)
      (told_priced a.keep b.keep node going.valid (no_labels a.keep.town a.keep.records tour going.valid) opened
      (shown_list_box a b goes node opened.there shown written adds) shown joined written offers
      (subst (λ (t : Town). IsOpenIn t b.keep.records node) goes.town open_still) point within told)

  -- without a point
  pub told_hard : (o : Option Point) → o ≡ None → IsShownOf a.keep.town (now a.keep) node o shown → IsOpenAt b.keep node → IsTold b.keep node o
  told_hard o is told open_still =
      subst (IsTold b.keep node) (sym is)
      (shown_priced None (record {}) (subst (λ (p : Option Point). IsShownOf a.keep.town (now a.keep) node p shown) is told) open_still)

  -- with a point, and a tour near it
  told_with_tour : (point : Point) (c : Search) → IsPointIn a.keep.town (now a.keep) (at_node a.keep node) point → IsShownOf a.keep.town (now a.keep) node (Some point) shown → Advances b c → AddsTourAtMost b.keep c.keep → HasTourNear c.keep point
      → IsOpenAt c.keep node → IsTold c.keep node (Some point)
  told_with_tour point c within told two tour_adds near open_still =
      let there = there_still a b goes node opened.there in (
        subst (λ (t : Town). IsPriced t c.keep.records node (Some point)) (sym two.town)
            (priced_still b.keep.town b.keep.records c.keep.records node point (tour_list_box b c two node there tour_adds) tour_adds
            (shown_priced (Some point) within told (opened_before b c two node there open_still))),
        near,
      )

  pub told_near : {X : Type 0} (o : Option Point) (point : Point) (c : Search) (result : Result X SearchFault) → o ≡ Some point → IsPointIn a.keep.town (now a.keep) (at_node a.keep node) point → IsShownOf a.keep.town (now a.keep) node o shown
      → Leaves b c result → AddsTourAtMost b.keep c.keep → OnOk result (HasTourNear c.keep point) → OnOk result (IsOpenAt c.keep node → IsTold c.keep node o)
  told_near o point c (Ok x) is within told leaves tour_adds near = λ open_still.
      subst (IsTold c.keep node) (sym is)
      (told_with_tour point c within (subst (λ (p : Option Point). IsShownOf a.keep.town (now a.keep) node p shown) is told) leaves.0 tour_adds near open_still)
  told_near o point c (Err fault) is within told leaves tour_adds near = record {}

-- ---- a tour near the point

near_tour : (old new : KeepState) (point : Point) (steps : List Step) → new.town ≡ old.town → (IsTourPoint old.town point → CostsAtMost old.town point steps) → HasUpper (walk_cost old.town steps) new → HasTourNear new point
near_tour old new point steps town costs upper is =
    let e = denominator_of point in
    let cost = costs (subst (λ (t : Town). IsTourPoint t point) town is) in
    let scaled : upper.0 * e ≤ walk_cost old.town steps * e = mul-le-mul_right e upper.2 in (
      upper.0,
      upper.1,
      subst (λ (t : Town). upper.0 * e ≤ use_cost t (numbers_of point)) (sym town) (omega (arith, scaled, cost)),
    )

pub offered_near : {X : Type 0} (old new : Search) (point : Point) (steps : List Step) (graph : Town) (result : Result X SearchFault) → graph ≡ old.keep.town → (IsTourPoint graph point → CostsAtMost graph point steps) → Leaves old new result
    → OnOk result (HasUpper (walk_cost old.keep.town steps) new.keep) → OnOk result (HasTourNear new.keep point)
offered_near old new point steps graph (Ok x) same costs leaves upper =
    near_tour old.keep new.keep point steps leaves.0.town (subst (λ (t : Town). IsTourPoint t point → CostsAtMost t point steps) same costs) upper
offered_near old new point steps graph (Err fault) same costs leaves upper = record {}

-- a tour that costs no more than one near the point
costs_no_more : (town : Town) (point : Point) (given found : List Step) → walk_cost town found ≤ walk_cost town given → CostsAtMost town point given → CostsAtMost town point found
costs_no_more town point given found less costs =
    let e = denominator_of point in
    let scaled : walk_cost town found * e ≤ walk_cost town given * e = mul-le-mul_right e less in
    omega (arith, scaled, costs)

pub improved_near : {E : Type 0} (town : Town) (point : Point) (given seen : List Step) → seen ≡ given → (result : Result (List Step) E) → IfOk result (λ steps. walk_cost town steps ≤ walk_cost town seen)
    → (IsTourPoint town point → CostsAtMost town point given) → IfOk result (λ steps. IsTourPoint town point → CostsAtMost town point steps)
improved_near town point given seen same (Ok steps) less costs = λ is. costs_no_more town point given steps (subst (λ (s : List Step). walk_cost town steps ≤ walk_cost town s) same less) (costs is)
improved_near town point given seen same (Err fault) less costs = record {}
