-- The value that the kept rows give is the value of the multipliers.
use Rattle.std.proofs.Common.{◌≡◌, ℕ, ◌+◌, ◌*◌, Bool, true, cond, ℤ, pos, ◌+ℤ◌, ◌-ℤ◌, List, map, filter, ap, refl, sym, ◌∙◌, subst, arith}
use Rattle.std.specs.Prelude.{slice_index}
use Rattle.std.specs.List.{range_with_len}
use Rattle.wrp_sums.specs.Sums.{sum_over}
use Rattle.wrp_sums.specs.Duality.{least_term, combine_rows, dual_value}
use Rattle.wrp_sums.proofs.SumsOver.{sum_over-filter, sum_over-push, sum_over-same, sum_over-ext}
use Rattle.wrp_sums.proofs.FirstNumbers.{passes_of_inside}
use Rattle.wrp_town.specs.Arcs.{arcs, is_legal, legal_arcs, cost_or_zero}
use Rattle.wrp_town.proofs.Lists.{range_with_len-more}
use Rattle.wrp_rules.specs.Rows.{row_at}
use Rattle.wrp_rules.specs.Nodes.{Node, Standing, program, empty_value}
use Rattle.wrp_rows.specs.declared.point.Bounds.{Bounds}
use Rattle.wrp_rows.specs.Pools.{SparseRow, RowPool, sparse_of, HasRowsOf}
use Rattle.wrp_rows.specs.Points.{AreBoundsOf}
use Rattle.wrp_rows.specs.Tables.{number_at, name_rows, combined_coef, combined_side, AreCombined}
use Rattle.wrp_rows.proofs.Kept.{combined_coef_kept, combined_side_kept}
use Rattle.wrp_bound.specs.Values.{arc_value, pool_value}

-- a sum over the numbers that pass a test, with the next number
pub sum_range_more : (f : ℕ → ℤ) (p : ℕ → Bool) (n : ℕ) → sum_over f (filter p (range_with_len 0 (n + 1))) ≡ sum_over f (filter p (range_with_len 0 n)) +ℤ cond (p n) (f n) (pos 0)
sum_range_more f p n =
    let chosen = λ (x : ℕ). cond (p x) (f x) (pos 0) in
    sum_over-filter f p (range_with_len 0 (n + 1))
    ∙ ap (sum_over chosen) (range_with_len-more 0 n n (omega arith))
    ∙ sum_over-push chosen (range_with_len 0 n) n
    ∙ ap (λ (z : ℤ). z +ℤ chosen n) (sym (sum_over-filter f p (range_with_len 0 n)))

-- the value by the sums that were combined
pub value_of_sums : (pool : RowPool) (factor : ℕ) (bounds : Bounds) (mult : List (ℕ × ℕ)) (sums : List ℤ) (side total value : ℤ) → AreCombined pool.rows mult sums side → total ≡ sum_over (arc_value pool.town factor bounds (number_at sums)) (legal_arcs pool.town) → value ≡ side +ℤ total → value ≡ pool_value pool factor bounds mult
value_of_sums pool factor bounds mult sums side total value are total_is sum =
    let same = sum_over-ext (arc_value pool.town factor bounds (number_at sums)) (arc_value pool.town factor bounds (combined_coef pool.rows mult))
    (λ arc. ap (λ (z : ℤ). least_term (pos (factor * cost_or_zero pool.town arc) -ℤ z) (slice_index bounds.lo arc) (slice_index bounds.hi arc)) (are.coefs arc)) (legal_arcs pool.town) in
    sum
    ∙ ap (λ (z : ℤ). z +ℤ total) are.right_side
    ∙ ap (λ (z : ℤ). combined_side pool.rows mult +ℤ z) (total_is ∙ same)

module _ (s : Standing) (node : Node) (pool : RowPool) (bounds : Bounds) (mult : List (ℕ × ℕ)) (has : HasRowsOf s pool) (are : AreBoundsOf pool.town node bounds) (named : name_rows pool.rows mult ≡ true) where
  named_kept : name_rows (map (sparse_of pool.town) s.rows) mult ≡ true
  named_kept = subst (λ (rows : List SparseRow). name_rows rows mult ≡ true) has.rows named

  side_is : combined_side pool.rows mult ≡ combine_rows mult (λ i. (row_at s.rows i).right_side)
  side_is = ap (λ (rows : List SparseRow). combined_side rows mult) has.rows ∙ combined_side_kept pool.town s.rows mult named_kept

  coef_is : (arc : ℕ) → is_legal pool.town arc ≡ true → combined_coef pool.rows mult arc ≡ combine_rows mult (λ i. (row_at s.rows i).coef arc)
  coef_is arc legal = ap (λ (rows : List SparseRow). combined_coef rows mult arc) has.rows ∙ combined_coef_kept pool.town s.rows mult arc named_kept legal

  -- the value of an arc at the node
  abbrev node_value : (ℕ → ℕ) → ℕ → ℤ
  node_value cost arc = least_term (pos (cost arc) -ℤ combine_rows mult (λ i. (row_at s.rows i).coef arc)) (node.lo arc) (node.hi arc)

  arc_is : (factor : ℕ) (cost : ℕ → ℕ) (arc : ℕ) → factor * cost_or_zero pool.town arc ≡ cost arc → is_legal pool.town arc ≡ true → arc_value pool.town factor bounds (combined_coef pool.rows mult) arc ≡ node_value cost arc
  arc_is factor cost arc is legal =
      ap (λ (z : ℤ). least_term (pos (factor * cost_or_zero pool.town arc) -ℤ z) (slice_index bounds.lo arc) (slice_index bounds.hi arc)) (coef_is arc legal)
      ∙ ap (λ (c : ℕ). least_term (pos c -ℤ combine_rows mult (λ i. (row_at s.rows i).coef arc)) (slice_index bounds.lo arc) (slice_index bounds.hi arc)) is
      ∙ ap (λ (lo : ℕ). least_term (pos (cost arc) -ℤ combine_rows mult (λ i. (row_at s.rows i).coef arc)) lo (slice_index bounds.hi arc)) (are.lo arc legal)
      ∙ ap (λ (hi : ℕ). least_term (pos (cost arc) -ℤ combine_rows mult (λ i. (row_at s.rows i).coef arc)) (node.lo arc) hi) (are.hi arc legal)

  value_is : (factor : ℕ) (cost : ℕ → ℕ) → ((arc : ℕ) → factor * cost_or_zero pool.town arc ≡ cost arc) → pool_value pool factor bounds mult ≡ combine_rows mult (λ i. (row_at s.rows i).right_side) +ℤ sum_over (node_value cost) (legal_arcs pool.town)
  value_is factor cost is =
      ap (λ (z : ℤ). z +ℤ sum_over (arc_value pool.town factor bounds (combined_coef pool.rows mult)) (legal_arcs pool.town)) side_is
      ∙ ap (λ (z : ℤ). combine_rows mult (λ i. (row_at s.rows i).right_side) +ℤ z)
      (sum_over-same (arc_value pool.town factor bounds (combined_coef pool.rows mult)) (node_value cost) (legal_arcs pool.town)
      (λ arc inside. arc_is factor cost arc (is arc) (passes_of_inside (is_legal pool.town) (arcs pool.town) arc inside)))

  pub dual_value_is : (den : ℕ) → pool_value pool den bounds mult ≡ dual_value (program pool.town s.rows node) den mult
  dual_value_is den = value_is den (λ arc. den * cost_or_zero pool.town arc) (λ arc. refl)

  pub free_value_is : pool_value pool 0 bounds mult ≡ empty_value pool.town s.rows node mult
  free_value_is = value_is 0 (λ arc. 1 * 0) (λ arc. omega arith)
