use Rattle.std.proofs.Common.{◌≡◌, ◌+◌, ◌<◌, ◌*◌, ◌≤◌, ◌^◌, ℕ, pos, ◌+ℤ◌, ◌*ℤ◌, get_or, to_z, of_z, unsigned_abs, arith, ap, sym, subst, ◌∙◌}
use Rattle.std.specs.Int.{w128}
use Rattle.wrp_sums.specs.Sums.{coef_at}
use Rattle.wrp_sums.proofs.Integers.{linear, casts}
use Rattle.wrp_sums.proofs.SumsOver.{sum_over_more}
use Rattle.wrp_pool.specs.declared.row.SparseRow.{SparseRow}
use Rattle.wrp_pool.specs.Pools.{IsSmallRow, sparse_at}
use Rattle.wrp_pool.proofs.Weights.{row_there, most_pairs}
use Rattle.wrp_pool.proofs.row.Pool.combine.Goals as goal

pub add_row-requires-clause-row : goal.add_row-requires-clause-row
add_row-requires-clause-row c =
    subst (IsSmallRow c.args.town.now) (sym c.row.ensures)
    (c.requires.small _ _ (row_there c.args.self.now c.args.multipliers.now c.loop-pair.pair-index (0, 0) c.requires.rows c.loop-pair-test.true))

-- the row of one more pair is added
pub loop-pair-preserved : goal.loop-pair-preserved
loop-pair-preserved c =
    let pool = c.args.self.now in
    let pairs = c.args.multipliers.now in
    let i = c.loop-pair.pair-index in
    let below = c.loop-pair-test.true in
    let old = c.loop-pair.invariant in
    let grown = c.in_ok-side.ensures.terms in
    let share = c.in_ok-side.ensures.right_side in
    let weight = (get_or pairs i (0, 0)).1 in
    let few : i < 4096 = omega (arith, below, most_pairs _ pairs c.requires.multipliers) in
    let sum : to_z w128 (of_z w128 (to_z w128 c.loop-pair.side-bits +ℤ to_z w128 (of_z w128 c.in_ok-side.field-0))) ≡ c.loop-pair.side +ℤ c.in_ok-side.field-0 =
    omega (arith, casts, old.side_size, share.size, few, c.loop-pair.side-is) in
    record {
      is_tally = grown.is_tally;
      exact = λ arc. omega (
        arith,
        linear,
        old.exact arc,
        grown.exact arc,
        ap (λ (r : SparseRow). pos weight *ℤ coef_at r.terms arc) c.row.ensures,
        sum_over_more (λ (q : ℕ × ℕ). pos q.1 *ℤ coef_at (sparse_at pool q.0).terms arc) pairs i (0, 0) below,
      );
      size = λ arc. omega (arith, old.size arc, grown.size arc);
      right_side = sum ∙ omega (
        arith,
        linear,
        old.right_side,
        share.exact,
        ap (λ (r : SparseRow). pos weight *ℤ r.right_side) c.row.ensures,
        sum_over_more (λ (q : ℕ × ℕ). pos q.1 *ℤ (sparse_at pool q.0).right_side) pairs i (0, 0) below,
      );
      side_size = subst (λ z. unsigned_abs z ≤ (i + 1) * 2 ^ 83) (sym sum) (omega (arith, casts, old.side_size, share.size));
    }
