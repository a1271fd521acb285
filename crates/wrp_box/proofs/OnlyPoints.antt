-- The only point of a box.
use Rattle.std.proofs.Common.{◌≡◌, ℕ, ◌<◌, ◌≤◌, ℤ, pos, ◌≤ℤ◌, unsigned_abs, List, length, get_or, ap, sym, ◌∙◌, subst, arith}
use Rattle.std.specs.Prelude.{slice_index, slice_index_or}
use Rattle.std.proofs.Math.ListN.{get_or-map}
use Rattle.std.proofs.lemmas.List.{length-map}
use Rattle.wrp_sums.proofs.Integers.{linear}
use Rattle.wrp_town.specs.declared.town.Town.{Town}
use Rattle.wrp_town.proofs.TownLaws.{few_demands}
use Rattle.wrp_rules.specs.Nodes.{Node, Standing, empty_value}
use Rattle.wrp_laws.specs.Points.{MeetsOver, IsPointOf}
use Rattle.wrp_rows.specs.declared.point.Bounds.{Bounds}
use Rattle.wrp_rows.specs.declared.point.Point.{Point}
use Rattle.wrp_rows.specs.Pools.{RowPool, sparse_of, HasRowsOf}
use Rattle.wrp_rows.specs.Points.{IsPoint, AreBounds, AreBoundsOf}
use Rattle.wrp_odd.specs.Points.{HasNumbers, denominator_of, numbers_of}
use Rattle.wrp_progress.specs.Progress.{IsOnePoint}
use Rattle.wrp_progress.proofs.OnePoint.{row_met}
use Rattle.wrp_box.specs.Branching.{HoldOne}
use Rattle.wrp_box.specs.Points.{alone, IsLowest}
use Rattle.wrp_box.specs.Relaxing.{IsPointIn}
use Rattle.wrp_box.proofs.Relaxed.{get_or_any}

module _ (bounds : Bounds) (point : Point) (lowest : IsLowest bounds point) where
  number_at : (arc : ℕ) → slice_index_or point.at arc (pos 0) ≡ pos (slice_index bounds.lo arc)
  number_at arc = ap (λ (at : List ℤ). slice_index_or at arc (pos 0)) lowest.numbers ∙ get_or-map (λ n. pos n) bounds.lo arc 0

  pub uses : (arc : ℕ) → numbers_of point arc ≡ slice_index bounds.lo arc
  uses arc = ap unsigned_abs (number_at arc)

  pub den_is : denominator_of point ≡ 1
  den_is = ap unsigned_abs lowest.den

  module _ (town : Town) (within : AreBounds town bounds) (one : HoldOne town bounds) where
    low : (arc : ℕ) → slice_index bounds.lo arc ≤ 4000
    low arc = omega (arith, within.ordered arc, within.low arc, few_demands town)

    pub lowest_is : IsPoint town point
    lowest_is = record {
      positive = omega (arith, linear, lowest.den);
      low = omega (arith, linear, lowest.den);
      long = ap length lowest.numbers ∙ length-map bounds.lo (λ n. pos n) ∙ within.long_lo;
      illegal = λ arc off. number_at arc ∙ ap pos (omega (arith, within.ordered arc, within.illegal arc off));
    }

    pub lowest_numbers : HasNumbers point
    lowest_numbers i d below =
        let same : get_or point.at i d ≡ pos (slice_index bounds.lo i) = get_or_any point.at i d (pos 0) below ∙ number_at i in
        (omega (arith, linear, same), omega (arith, linear, same, low i))

    pub lowest_one : (node : Node) → AreBoundsOf town node bounds → IsOnePoint town node (numbers_of point)
    lowest_one node are = record {
      lo = λ arc legal. sym (are.lo arc legal) ∙ sym (uses arc);
      hi = λ arc legal. sym (are.hi arc legal) ∙ sym (one arc legal) ∙ sym (uses arc);
    }

module _ (pool : RowPool) (bounds : Bounds) (point : Point) (lowest : IsLowest bounds point) (within : AreBounds pool.town bounds) (one : HoldOne pool.town bounds) (s : Standing) (node : Node) (has : HasRowsOf s pool) (are : AreBoundsOf pool.town node bounds) (none : (i : ℕ) → i < length pool.rows → empty_value pool.town s.rows node (alone i) ≤ℤ pos 0) where
  only : IsOnePoint pool.town node (numbers_of point)
  only = lowest_one bounds point lowest pool.town within one node are

  over_one : IsPointOf pool.town s.rows node 1 (numbers_of point)
  over_one = record {
    positive = omega arith;
    at_least = λ arc legal. omega (arith, only.lo arc legal);
    at_most = λ arc legal. omega (arith, only.hi arc legal);
    meets = λ i d below.
        subst (MeetsOver pool.town 1 (numbers_of point)) (get_or_any s.rows i (record { coef = λ arc. pos 0; right_side = pos 0 }) d below)
        (row_met pool.town s.rows node (numbers_of point) only i
        (none i (omega (arith, ap length has.rows, length-map s.rows (sparse_of pool.town), below))));
  }

  pub only_in : IsPointIn pool.town s node point
  only_in = record {
    is = lowest_is bounds point lowest pool.town within one;
    numbers = lowest_numbers bounds point lowest pool.town within one;
    of_node = subst (λ (e : ℕ). IsPointOf pool.town s.rows node e (numbers_of point)) (sym (den_is bounds point lowest)) over_one;
  }
