-- Cuts that a point of an open node breaks, offered one after the other, and the node behind them.
use Rattle.std.proofs.Common.{◌≡◌, ℕ, ◌+◌, ◌<◌, ◌≤◌, Bool, true, false, cond, not, ◌||◌, ◌==◌, List, [], ◌∷◌, ◌++◌, length, Option, None, Some, append_assoc, length-append, ap, refl, sym, ◌∙◌, subst, ◌⊎◌, inl, inr, arith}
use Rattle.std.specs.Prelude.{slice_index_or}
use Rattle.std.specs.List.{All, fold}
use Rattle.std.proofs.lemmas.Bool.{eqb-true, false≢true, true≢false}
use Rattle.std.proofs.lemmas.List.{append-nil}
use Rattle.std.proofs.lemmas.List.Elements.{All-nil, All-head, All-tail, All-push}
use Rattle.wrp_town.specs.declared.town.Town.{Town}
use Rattle.wrp_rules.specs.declared.record.Record.{Record}
use Rattle.wrp_rules.specs.declared.record.Record.TheVariants.{Conn, Odd, Round, Kc}
use Rattle.wrp_rules.specs.Nodes.{Node, Standing, root, standing, node_at, after, nodes_after, upper_after, is_open}
use Rattle.wrp_rules.specs.Rules.{is_cut, broken_rule}
use Rattle.wrp_rules.specs.Lists.{is_valid}
use Rattle.wrp_writer.specs.Limits.{is_writable}
use Rattle.wrp_tour.specs.Tours.{HasTour}
use Rattle.wrp_rows.specs.declared.point.Point.{Point}
use Rattle.wrp_odd.specs.Points.{denominator_of, numbers_of}
use Rattle.wrp_round.specs.OddForms.{IsBrokenCut}
use Rattle.wrp_progress.specs.Progress.{IsOpenIn, node_in}
use Rattle.wrp_progress.proofs.Growing.{standing_both}
use Rattle.wrp_licence.specs.Hard.{IsHard}
use Rattle.wrp_licence.specs.Causes.{most_cuts, most_round_cuts, cuts_of, IsPointAt, IsCaused, AreCaused}
use Rattle.wrp_licence.proofs.CutCauses.{cut_is_caused}
use Rattle.wrp_licence.proofs.Pools.{full_pool}
use Rattle.wrp_licence.proofs.Prefixes.{each_of_more}
use Rattle.wrp_keep.specs.Keeps.{KeepState, broken_by}
use Rattle.wrp_engine.specs.Searches.{IsOpenAt, now, at_node}
use Rattle.wrp_engine.specs.Offers.{Offers, AddsAtMost, Joins}
use Rattle.wrp_engine.specs.Additions.{AddsOnlyCuts}
use Rattle.wrp_engine.specs.Cuts.{IsUseful}
use Rattle.wrp_engine.specs.declared.left.Left.{Left}
use Rattle.wrp_engine.specs.declared.left.RoundEnd.TheVariants.{Last}
use Rattle.wrp_engine.specs.Turns.{IsLeft, MeetsLeft}
use Rattle.wrp_engine.specs.Sights.{IsSeen, IsTold, CutsOff, AreCuts, EndsOffering, EndsCutting}
use Rattle.wrp_engine.proofs.Ending.{no_labels}

-- ---- what cuts add

pub only_weaker : (least most : ℕ) (a b : KeepState) → least ≤ most → AddsOnlyCuts most a b → AddsOnlyCuts least a b
only_weaker least most a b less only = record {
  more = only.more;
  is = only.is;
  cuts = only.cuts;
  some = omega (arith, only.some, less);
  caused = only.caused;
}

abbrev pub only_none : (a b : KeepState) → b.records ≡ a.records → AddsOnlyCuts 0 a b
only_none a b same = record {
  more = [];
  is = same ∙ sym (append-nil a.records);
  cuts = All-nil (λ r. is_cut r ≡ true);
  some = omega arith;
  caused = λ entry added at here caused. subst (λ (items : List Record). AreCaused a.town entry items) (sym (append-nil added)) caused;
}

-- ---- a run of offers

-- of these items, which cut off a point at the old list, those before `left` were offered
pub record HasOffered (old : KeepState) (items : List Record) (new : KeepState) (left : List Record) (joined : Bool) : Type 0 where
  pub adds : AddsOnlyCuts (cond joined 1 0) old new
  pub few : length adds.more + length left ≤ most_round_cuts
  pub cuts : AreCuts old left
  pub idle : joined ≡ false → (new.records ≡ old.records) × ((left ≡ items) ⊎ (cuts_of old.records ≡ most_cuts))

pub none_offered : (old : KeepState) (items : List Record) → length items ≤ most_round_cuts → AreCuts old items → HasOffered old items old items false
none_offered old items few are = record {
  adds = only_none old old refl;
  few = omega (arith, few);
  cuts = are;
  idle = λ none. (refl, inl refl);
}

pub all_offered : (old new : KeepState) (items : List Record) (joined : Bool) → HasOffered old items new [] joined → EndsOffering old new items joined
all_offered old new items true so = so.adds
all_offered old new items false so = (
  (so.idle refl).0,
  elim (so.idle refl).1 [ inl none ↦ inl (sym none) | inr full ↦ inr full ],
)

module _ (old mid new : KeepState) (items : List Record) (item : Record) (left : List Record) (joined : Bool) (tour : HasTour old.town) (valid : is_valid old.town old.records ≡ true) (town : mid.town ≡ old.town) (so : HasOffered old items mid (item ∷ left) joined) where
  cutting : CutsOff old (item ∷ left)
  cutting = elim so.cuts [ inl none ↦ absurd (cc) | inr cuts ↦ cuts ]

  useful : IsUseful old.town (now old) cutting.point item
  useful = All-head (IsUseful old.town (now old) cutting.point) item left cutting.useful

  pub cut_written : is_writable item ≡ true
  cut_written = useful.broken.valid.writable

  others_cut : AreCuts old left
  others_cut = inr (record {
    node = cutting.node;
    point = cutting.point;
    opened = cutting.opened;
    within = cutting.within;
    costs = cutting.costs;
    useful = All-tail (IsUseful old.town (now old) cutting.point) item left cutting.useful;
  })

  point_at : IsPointAt old.town old.records (denominator_of cutting.point) (numbers_of cutting.point)
  point_at = record { node = cutting.node; opened = cutting.opened; of_node = cutting.within.of_node; costs = cutting.costs }

  cause : (entry added : List Record) → old.records ≡ entry ++ added → IsCaused old.town entry (added ++ so.adds.more) item
  cause entry added at =
      cut_is_caused old.town entry added so.adds.more item cutting.point useful.cut (omega (arith, so.few))
      (subst (λ (rs : List Record). IsPointAt old.town rs (denominator_of cutting.point) (numbers_of cutting.point)) at point_at)
      (subst (λ (rs : List Record). IsBrokenCut old.town (standing old.town rs) cutting.point item) at useful.broken)

  abbrev one_joined : Joins item mid new → AddsOnlyCuts 1 old new
  one_joined joins = record {
    more = so.adds.more ++ item ∷ [];
    is = joins ∙ ap (λ (rs : List Record). rs ++ item ∷ []) so.adds.is ∙ append_assoc old.records so.adds.more (item ∷ []);
    cuts = All-push (λ r. is_cut r ≡ true) so.adds.more item so.adds.cuts useful.cut;
    some = omega (arith, length-append so.adds.more (item ∷ []));
    caused = λ entry added at here caused.
        subst (λ (rs : List Record). AreCaused old.town entry rs) (append_assoc added so.adds.more (item ∷ []))
        (each_of_more (IsCaused old.town entry) (added ++ so.adds.more) item (so.adds.caused entry added at here caused) (cause entry added at));
  }

  pub one_at_most : AddsAtMost item mid new → AddsOnlyCuts 0 old new
  one_at_most (inl joins) = only_weaker 0 1 old new (omega arith) (one_joined joins)
  one_at_most (inr same) = record {
    more = so.adds.more;
    is = same ∙ so.adds.is;
    cuts = so.adds.cuts;
    some = omega arith;
    caused = so.adds.caused;
  }

  pub one_offered : (now : Bool) → Offers item mid new now → HasOffered old items new left (joined || now)
  one_offered now offers = by joined now refl offers
    where
      with_it : Joins item mid new → (t : Bool) → t ≡ true → HasOffered old items new left t
      with_it joins true is = record {
        adds = one_joined joins;
        few = omega (arith, so.few, length-append so.adds.more (item ∷ []));
        cuts = others_cut;
        idle = λ none. absurd (true≢false none);
      }
      with_it joins false is = absurd (false≢true is)

      full : (broken_by item mid ≡ None → ⊥) → mid.records ≡ old.records → cuts_of old.records ≡ most_cuts
      full refused same =
          full_pool old.town old.records item valid (no_labels old.town old.records tour valid) useful.cut useful.broken.valid
          (λ none. refused
          (subst (λ (t : Town). broken_rule t (standing t mid.records) item ≡ None) (sym town)
          (subst (λ (rs : List Record). broken_rule old.town (standing old.town rs) item ≡ None) (sym same) none)))

      without : (was : Bool) → joined ≡ was → (broken_by item mid ≡ None → ⊥) → new.records ≡ mid.records → HasOffered old items new left was
      without was is refused same = record {
        adds = record {
          more = so.adds.more;
          is = same ∙ so.adds.is;
          cuts = so.adds.cuts;
          some = subst (λ (t : Bool). cond t 1 0 ≤ length so.adds.more) is so.adds.some;
          caused = so.adds.caused;
        };
        few = omega (arith, so.few);
        cuts = others_cut;
        idle = λ none. let before = (so.idle (is ∙ none)).0 in (same ∙ before, inr (full refused before));
      }

      by : (was told : Bool) → joined ≡ was → Offers item mid new told → HasOffered old items new left (was || told)
      by true true is offers = with_it offers.1 true refl
      by false true is offers = with_it offers.1 true refl
      by true false is offers = without true is offers.0 offers.1
      by false false is offers = without false is offers.0 offers.1

-- ---- cuts leave the nodes as they are

cut_keeps_nodes : (town : Town) (s : Standing) (item : Record) → is_cut item ≡ true → nodes_after town s item ≡ s.nodes
cut_keeps_nodes town s (Conn r1 r2 set) cut = refl
cut_keeps_nodes town s (Odd set) cut = refl
cut_keeps_nodes town s (Round divisor mult) cut = refl
cut_keeps_nodes town s (Kc k of) cut = refl
cut_keeps_nodes town s item cut = absurd (false≢true cut)

cut_keeps_upper : (upper : Option ℕ) (item : Record) → is_cut item ≡ true → upper_after upper item ≡ upper
cut_keeps_upper upper (Conn r1 r2 set) cut = refl
cut_keeps_upper upper (Odd set) cut = refl
cut_keeps_upper upper (Round divisor mult) cut = refl
cut_keeps_upper upper (Kc k of) cut = refl
cut_keeps_upper upper item cut = absurd (false≢true cut)

cuts_keep : (town : Town) (s : Standing) (items : List Record) → All (λ item. is_cut item ≡ true) items → ((fold (after town) s items).nodes ≡ s.nodes) × ((fold (after town) s items).upper ≡ s.upper)
cuts_keep town s [] all = (refl, refl)
cuts_keep town s (item ∷ items) all =
    let cut = All-head (λ r. is_cut r ≡ true) item items all in
    let others = cuts_keep town (after town s item) items (All-tail (λ r. is_cut r ≡ true) item items all) in
    (others.0 ∙ cut_keeps_nodes town s item cut, others.1 ∙ cut_keeps_upper s.upper item cut)

open_behind : (town : Town) (s t : Standing) (node : ℕ) → t.nodes ≡ s.nodes → t.upper ≡ s.upper → node < length s.nodes → is_open s.upper (node_at town s node) ≡ true → (node < length t.nodes) × (is_open t.upper (node_at town t node) ≡ true)
open_behind town s t node nodes upper there told = (
  omega (arith, ap length nodes, there),
  subst (λ (u : Option ℕ). is_open u (node_at town t node) ≡ true) (sym upper)
      (subst (λ (ns : List Node). is_open s.upper (slice_index_or ns node (root town)) ≡ true) (sym nodes) told),
)

-- an open node is open behind cuts
pub still_open : (least : ℕ) (a b : KeepState) (node : ℕ) → b.town ≡ a.town → AddsOnlyCuts least a b → IsOpenAt a node → IsOpenAt b node
still_open least a b node town only opened =
    let s = standing a.town a.records in
    let is : standing a.town b.records ≡ fold (after a.town) s only.more = ap (standing a.town) only.is ∙ standing_both a.town a.records only.more in
    let keeps = cuts_keep a.town s only.more only.cuts in
    let told = open_behind a.town s (standing a.town b.records) node
    (ap (λ (t : Standing). t.nodes) is ∙ keeps.0) (ap (λ (t : Standing). t.upper) is ∙ keeps.1) opened.there opened.told in
    subst (λ (t : Town). IsOpenIn t b.records node) (sym town) (record { there = told.0; told = told.1 })

-- what the tree tells of a node
pub told_of_tree : (keep : KeepState) (town : Town) (records : List Record) (node : ℕ) (told : Bool) → town ≡ keep.town → records ≡ keep.records → told ≡ is_open (standing town records).upper (node_in town records node) → is_open (now keep).upper (at_node keep node) ≡ told
told_of_tree keep town records node told same are is =
    sym (is
    ∙ ap (λ (rs : List Record). is_open (standing town rs).upper (node_in town rs node)) are
    ∙ ap (λ (t : Town). is_open (standing t keep.records).upper (node_in t keep.records node)) same)

-- ---- what a last round leaves

module _ (keep : KeepState) (node round : ℕ) (items : List Record) (full : Bool) (empty : full ≡ false → items ≡ []) where
  last_left : (point : Option Point) → IsSeen keep.town (now keep) node round point items → IsTold keep node point → (full ≡ true → cuts_of keep.records ≡ most_cuts) → IsLeft keep node (record { point = point; full = full })
  last_left None seen told filled = record {
    none = λ none. told;
    within = record {};
    filled = filled;
    idle = λ not. record {};
  }
  last_left (Some p) seen told filled = record {
    none = λ none. absurd (cc);
    within = seen.within;
    filled = filled;
    idle = λ not. let uncut = seen.uncut (empty not) in record { costs = told.0; conns = uncut.conns; odds = uncut.odds; near = told.1 };
  }

  last_meets : (point : Option Point) → IsSeen keep.town (now keep) node round point items → round ≤ most_round_cuts → MeetsLeft keep node (record { point = point; full = full })
  last_meets None seen few not = record {}
  last_meets (Some p) seen few not = (seen.uncut (empty not)).roundings few

told_same : (a b : KeepState) (node : ℕ) (point : Option Point) → b.town ≡ a.town → b.records ≡ a.records → IsTold a node point → IsTold b node point
told_same a b node None town records told =
    subst (λ (t : Town). IsHard t (standing t b.records) node) (sym town)
    (subst (λ (rs : List Record). IsHard a.town (standing a.town rs) node) (sym records) told)
told_same a b node (Some p) town records told =
    subst (λ (t : Town). IsTold (record a { town = t; records = b.records }) node (Some p)) (sym town)
    (subst (λ (rs : List Record). IsTold (record a { records = rs }) node (Some p)) (sym records) told)

module _ (old new : KeepState) (node round : ℕ) (point : Option Point) (items : List Record) (town : new.town ≡ old.town) (seen : IsSeen old.town (now old) node round point items) (told : IsOpenAt old node → IsTold old node point) where
  -- an open node, where cuts were offered
  pub cuts_of_open : IsOpenAt old node → AreCuts old items
  cuts_of_open opened = by point seen (told opened)
    where
      by : (p : Option Point) → IsSeen old.town (now old) node round p items → IsTold old node p → AreCuts old items
      by None is at = inl is
      by (Some p) is at = inr (record { node = node; point = p; opened = opened; within = is.within; costs = at.0; useful = is.useful })

  seen_now : new.records ≡ old.records → IsSeen new.town (now new) node round point items
  seen_now same =
      subst (λ (t : Town). IsSeen t (standing t new.records) node round point items) (sym town)
      (subst (λ (rs : List Record). IsSeen old.town (standing old.town rs) node round point items) (sym same) seen)

  pub none_joined : (empty : Bool) → empty ≡ (length items == 0) → IsOpenAt old node → EndsOffering old new items false → EndsCutting old new node round (Last (record { point = point; full = not empty }))
  none_joined empty told_empty opened ends = (
    ends.0,
    λ now_open. last_left new node round items (not empty) none point (seen_now ends.0) (told_same old new node point town ends.0 (told opened)) filled,
    λ now_open few. last_meets new node round items (not empty) none point (seen_now ends.0) few,
  )
    where
      is_empty : (e : Bool) (rs : List Record) → e ≡ (length rs == 0) → not e ≡ false → rs ≡ []
      is_empty e [] is all = refl
      is_empty true (r ∷ rs) is all = let none = eqb-true (length (r ∷ rs)) 0 (sym is) in absurd (omega arith)
      is_empty false (r ∷ rs) is all = absurd (true≢false all)

      is_some : (e : Bool) (rs : List Record) → e ≡ (length rs == 0) → not e ≡ true → rs ≡ [] → ⊥
      is_some false [] is some none = absurd (false≢true is)
      is_some true [] is some none = absurd (false≢true some)
      is_some e (r ∷ rs) is some none = cc

      none : not empty ≡ false → items ≡ []
      none = is_empty empty items told_empty

      filled : not empty ≡ true → cuts_of new.records ≡ most_cuts
      filled is = elim ends.1 [ inl nothing ↦ absurd (is_some empty items told_empty is nothing) | inr all ↦ ap cuts_of ends.0 ∙ all ]

  pub shut_before : (left : Left) → is_open (now old).upper (at_node old node) ≡ false → new.records ≡ old.records → EndsCutting old new node round (Last left)
  shut_before left shut same = (same, λ opened. absurd (closed_now opened), λ opened few. absurd (closed_now opened))
    where
      closed_now : IsOpenAt new node → ⊥
      closed_now opened =
          let before : IsOpenIn old.town old.records node =
          subst (λ (rs : List Record). IsOpenIn old.town rs node) same (subst (λ (t : Town). IsOpenIn t new.records node) town opened) in
          true≢false (sym before.told ∙ shut)
