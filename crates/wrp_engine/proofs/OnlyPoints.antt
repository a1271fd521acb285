-- The only point of a node's box, as it is found.
use Rattle.std.proofs.Common.{◌≡◌, ℕ, ◌*◌, ℤ, pos, List, length, ap, sym, ◌∙◌, subst, arith}
use Rattle.std.specs.Prelude.{slice_index, slice_index_or, unsigned_abs}
use Rattle.std.proofs.Math.ListN.{get_or-map}
use Rattle.wrp_town.specs.declared.town.Town.{Town}
use Rattle.wrp_town.specs.Arcs.{demands}
use Rattle.wrp_rows.specs.declared.point.Bounds.{Bounds}
use Rattle.wrp_rows.specs.declared.point.Point.{Point}
use Rattle.wrp_rows.specs.Pools.{RowPool, HasRowsOf}
use Rattle.wrp_rows.specs.Points.{AreBounds, AreBoundsOf}
use Rattle.wrp_box.specs.declared.single.Single.TheVariants.{Met}
use Rattle.wrp_box.specs.Branching.{HoldOne}
use Rattle.wrp_box.specs.Points.{IsLowest, TellsOfNode}
use Rattle.wrp_box.specs.Relaxing.{IsPointIn}
use Rattle.wrp_box.proofs.OnlyPoints.{lowest_one}
use Rattle.wrp_point_tour.specs.PointTours.{IsTimes, IsWhole}
use Rattle.wrp_keep.specs.Keeps.{KeepState}
use Rattle.wrp_engine.specs.Searches.{now, at_node}
use Rattle.wrp_engine.specs.Closing.{IsOnlyPoint}

lowest_times : (bounds : Bounds) (point : Point) → IsLowest bounds point → (arc : ℕ) → IsTimes point arc (slice_index bounds.lo arc)
lowest_times bounds point lowest arc =
    let low = slice_index bounds.lo arc in
    ap (λ (at : List ℤ). slice_index_or at arc (pos 0)) lowest.numbers
    ∙ get_or-map (λ n. pos n) bounds.lo arc 0
    ∙ ap pos (omega arith)
    ∙ ap (λ (e : ℕ). pos (low * e)) (sym (ap unsigned_abs lowest.den))

lowest_whole : (town : Town) (bounds : Bounds) (point : Point) → AreBounds town bounds → IsLowest bounds point → IsWhole point (length (demands town))
lowest_whole town bounds point within lowest arc =
    (slice_index bounds.lo arc, omega (arith, within.ordered arc, within.low arc), lowest_times bounds point lowest arc)

pub only_point_is : (keep : KeepState) (node : ℕ) (pool : RowPool) (bounds : Bounds) (point : Point) → pool.town ≡ keep.town → HasRowsOf (now keep) pool → AreBounds keep.town bounds → AreBoundsOf keep.town (at_node keep node) bounds → HoldOne keep.town bounds
    → TellsOfNode pool bounds (Met point) → IsOnlyPoint keep node point
only_point_is keep node pool bounds point same has within are one tells = record {
  den = tells.0.den;
  whole = lowest_whole keep.town bounds point within tells.0;
  one = lowest_one bounds point tells.0 keep.town within one (at_node keep node) are;
  is = subst (λ (t : Town). IsPointIn t (now keep) (at_node keep node) point) same
      (tells.1 (now keep) (at_node keep node) has (subst (λ (t : Town). AreBoundsOf t (at_node keep node) bounds) (sym same) are));
}
