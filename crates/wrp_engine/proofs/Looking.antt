-- What a relaxation over all rows shows of its node, there and at each list with the same rows and box.
use Rattle.std.proofs.Common.{◌≡◌, ℕ, ◌+◌, ◌≤◌, List, [], Option, Some, None, map, length, ap, refl, sym, ◌∙◌, subst, inl, inr}
use Rattle.std.specs.Prelude.{IfSome}
use Rattle.wrp_town.specs.declared.town.Town.{Town}
use Rattle.wrp_rules.specs.declared.record.Record.{Record}
use Rattle.wrp_rules.specs.Rows.{Row, base_rows}
use Rattle.wrp_rules.specs.Nodes.{Node, Standing, standing, node_at}
use Rattle.wrp_progress.proofs.Meeting.{rows_begin}
use Rattle.wrp_rows.specs.declared.point.Bounds.{Bounds}
use Rattle.wrp_rows.specs.declared.point.Point.{Point}
use Rattle.wrp_rows.specs.Pools.{RowPool, sparse_of, HasRowsOf}
use Rattle.wrp_rows.specs.Points.{AreBoundsOf}
use Rattle.wrp_odd.specs.Points.{denominator_of}
use Rattle.wrp_bound.specs.Mults.{without_zeros}
use Rattle.wrp_lp.specs.declared.lp.Lp.{Lp}
use Rattle.wrp_lp.specs.declared.lp.Lp.TheVariants.{Optimal, Empty, Wide, Pivots}
use Rattle.wrp_round.specs.Optima.{IsOptimal, point_of}
use Rattle.wrp_round.specs.OddForms.{HasBaseRows}
use Rattle.wrp_box.specs.Records.{IsExact, IsShown, IsShownRecord}
use Rattle.wrp_box.specs.Relaxing.{all_rows, IsRelaxed, ShowsNode}
use Rattle.wrp_licence.specs.Runs.{most_pivots}
use Rattle.wrp_licence.specs.Causes.{most_round_cuts}
use Rattle.wrp_licence.proofs.Ending.{hard_by_answer}
use Rattle.wrp_licence.proofs.Rounded.{meets_roundings}
use Rattle.wrp_licence.proofs.Values.{optimal_there, optimum_priced, empty_there, empty_valued}
use Rattle.wrp_engine.specs.declared.sight.Sight.{Sight}
use Rattle.wrp_engine.specs.Cuts.{AreUseful, IsUnbroken}
use Rattle.wrp_engine.specs.Sights.{shown_point, Tells, IsShownOf, KeepsBox, IsSeen, IsSight}

-- ---- what is shown

pub shown_written : (node : ℕ) (lp : Lp) (shown : Option Record) → IsShown node lp shown → IfSome shown (IsShownRecord node)
shown_written node lp None so = record {}
shown_written node lp (Some item) so = so.0

module _ (s : Standing) (node : ℕ) (pool : RowPool) (bounds : Bounds) (has : HasRowsOf s pool) (are : AreBoundsOf pool.town (node_at pool.town s node) bounds) where
  exact_told : (lp : Lp) → IsRelaxed pool bounds most_pivots lp → (item : Record) → IsExact node lp item → Tells pool.town s node (shown_point lp) item
  exact_told (Optimal point mult table taken) relaxed item exact = record {
    den = denominator_of point;
    mult = without_zeros mult;
    is = exact;
    there = optimal_there s node pool bounds most_pivots has are point mult table taken relaxed;
    value = optimum_priced s node pool bounds most_pivots has are point mult table taken relaxed;
  }
  exact_told (Empty mult taken) relaxed item exact = record {
    mult = without_zeros mult;
    is = exact;
    there = empty_there s node pool bounds most_pivots has are mult taken relaxed;
    value = empty_valued s node pool bounds most_pivots has are mult taken relaxed;
  }
  exact_told (Wide taken) relaxed item exact = absurd exact
  exact_told (Pivots taken) relaxed item exact = absurd exact

  -- it is exact, or the node is hard
  pub shown_told : (lp : Lp) → IsRelaxed pool bounds most_pivots lp → (shown : Option Record) → IsShown node lp shown → IsShownOf pool.town s node (shown_point lp) shown
  shown_told lp relaxed None none = inr (hard_by_answer s node pool bounds has are lp relaxed none)
  shown_told lp relaxed (Some item) (written, inl exact) = inl (item, refl, exact_told lp relaxed item exact)
  shown_told lp relaxed (Some item) (written, inr none) = inr (hard_by_answer s node pool bounds has are lp relaxed none)

-- ---- other lists with the same rows and box

rows_kept : (s t : Standing) (node : ℕ) (pool : RowPool) → KeepsBox pool.town node s t → HasRowsOf s pool → HasRowsOf t pool
rows_kept s t node pool box has = record {
  rows = has.rows ∙ ap (λ (rs : List Row). map (sparse_of pool.town) rs) (sym box.rows);
  cuts = ap (λ (rs : List Row). length rs) box.rows ∙ has.cuts ∙ ap (λ (n : ℕ). length (base_rows pool.town) + n) (sym box.cuts);
}

bounds_kept : (town : Town) (s t : Standing) (node : ℕ) (bounds : Bounds) → KeepsBox town node s t → AreBoundsOf town (node_at town s node) bounds → AreBoundsOf town (node_at town t node) bounds
bounds_kept town s t node bounds box are = record {
  lo = λ arc legal. are.lo arc legal ∙ sym (ap (λ (f : ℕ → ℕ). f arc) box.lo);
  hi = λ arc legal. are.hi arc legal ∙ sym (ap (λ (f : ℕ → ℕ). f arc) box.hi);
}

base_stands : (town : Town) (records : List Record) → HasBaseRows town (standing town records)
base_stands town records = let begin = rows_begin town records in record { others = begin.0; rows = begin.1 }

-- ---- what is seen

module _ (pool : RowPool) (records : List Record) (node round : ℕ) (bounds : Bounds) (has : HasRowsOf (standing pool.town records) pool) (are : AreBoundsOf pool.town (node_at pool.town (standing pool.town records) node) bounds) where
  module _ (cuts : List Record) (new : List Record) (box : KeepsBox pool.town node (standing pool.town records) (standing pool.town new)) where
    abbrev t : Standing
    t = standing pool.town new

    has_new : HasRowsOf t pool
    has_new = rows_kept (standing pool.town records) t node pool box has

    are_new : AreBoundsOf pool.town (node_at pool.town t node) bounds
    are_new = bounds_kept pool.town (standing pool.town records) t node bounds box are

    sight_seen : (lp : Lp) → IsRelaxed pool bounds most_pivots lp → ((s : Standing) (at : Node) → HasRowsOf s pool → AreBoundsOf pool.town at bounds → ShowsNode pool.town s at lp) → AreUseful pool (point_of lp) cuts
        → (cuts ≡ [] → IsOptimal lp → IsUnbroken pool (all_rows pool) round lp) → ((IsOptimal lp → ⊥) → cuts ≡ []) → IsSeen pool.town t node round (shown_point lp) cuts
    sight_seen (Optimal point mult table taken) relaxed shows useful none idle = record {
      within = shows t (node_at pool.town t node) has_new are_new;
      useful = useful t has_new (base_stands pool.town new);
      uncut = λ is.
          (let unbroken = none is (record {}) in record {
            conns = unbroken.conns;
            odds = unbroken.odds;
            roundings = λ low. meets_roundings t node pool bounds has_new are_new (Optimal point mult table taken) relaxed (record {}) (unbroken.roundings low t has_new);
          });
    }
    sight_seen (Empty mult taken) relaxed shows useful none idle = idle (λ optimal. optimal)
    sight_seen (Wide taken) relaxed shows useful none idle = idle (λ optimal. optimal)
    sight_seen (Pivots taken) relaxed shows useful none idle = idle (λ optimal. optimal)

  module _ (lp : Lp) (relaxed : IsRelaxed pool bounds most_pivots lp) (shows : (s : Standing) (at : Node) → HasRowsOf s pool → AreBoundsOf pool.town at bounds → ShowsNode pool.town s at lp) where
    sight_in : (sight : Sight) → sight.point ≡ shown_point lp → IsShown node lp sight.shown → length sight.cuts.items ≤ most_round_cuts → AreUseful pool (point_of lp) sight.cuts.items
        → (sight.cuts.items ≡ [] → IsOptimal lp → IsUnbroken pool (all_rows pool) round lp) → ((IsOptimal lp → ⊥) → sight.cuts.items ≡ []) → IsSight pool.town records node round sight
    sight_in sight is shown few useful none idle = record {
      few = few;
      written = shown_written node lp sight.shown shown;
      told = subst (λ (o : Option Point). IsShownOf pool.town (standing pool.town records) node o sight.shown) (sym is)
          (shown_told (standing pool.town records) node pool bounds has are lp relaxed sight.shown shown);
      seen = λ new box. subst (λ (o : Option Point). IsSeen pool.town (standing pool.town new) node round o sight.cuts.items) (sym is)
          (sight_seen sight.cuts.items new box lp relaxed shows useful none idle);
    }

-- of the rows that a list lends, and what is chosen of them
pub sight_at : (town : Town) (pool : RowPool) (records : List Record) (node round : ℕ) (bounds : Bounds) (chosen : List ℕ) (lp : Lp) (sight : Sight) → pool.town ≡ town → HasRowsOf (standing town records) pool → AreBoundsOf town (node_at town (standing town records) node) bounds
    → chosen ≡ all_rows pool → IsRelaxed pool bounds most_pivots lp → ((s : Standing) (at : Node) → HasRowsOf s pool → AreBoundsOf pool.town at bounds → ShowsNode pool.town s at lp) → sight.point ≡ shown_point lp → IsShown node lp sight.shown
    → length sight.cuts.items ≤ most_round_cuts → AreUseful pool (point_of lp) sight.cuts.items → (sight.cuts.items ≡ [] → IsOptimal lp → IsUnbroken pool chosen round lp) → ((IsOptimal lp → ⊥) → sight.cuts.items ≡ []) → IsSight town records node round sight
sight_at town pool records node round bounds chosen lp sight is has are all relaxed shows point shown few useful none idle =
    subst (λ (t : Town). IsSight t records node round sight) is
    (sight_in pool records node round bounds
    (subst (λ (t : Town). HasRowsOf (standing t records) pool) (sym is) has)
    (subst (λ (t : Town). AreBoundsOf t (node_at t (standing t records) node) bounds) (sym is) are)
    lp relaxed shows sight point shown few useful
    (λ empty optimal. subst (λ (rows : List ℕ). IsUnbroken pool rows round lp) all (none empty optimal)) idle)
