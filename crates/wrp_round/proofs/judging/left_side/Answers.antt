use Rattle.std.proofs.Common.{◌≡◌, ◌+◌, ◌*◌, ◌^◌, ◌≤◌, ℕ, ℤ, pos, ◌+ℤ◌, ◌*ℤ◌, unsigned_abs, to_z, of_z, ap, sym, ◌∙◌, subst, arith}
use Rattle.std.specs.Int.{w128}
use Rattle.wrp_town.proofs.TownLaws.{few_streets}
use Rattle.wrp_tableau.proofs.Factoring.{cast}
use Rattle.wrp_rows.specs.Tables.{number_at}
use Rattle.wrp_odd.specs.Points.{numbers_of}
use Rattle.wrp_round.proofs.Judged.{left_more, left_small, left_all}
use Rattle.wrp_round.proofs.judging.left_side.Goals as goal

pub loop-arc-preserved : goal.loop-arc-preserved
loop-arc-preserved c =
    let town = c.args.town.now in
    let f : ℕ → ℤ = λ arc. number_at c.args.sums.now arc *ℤ pos (numbers_of c.args.point.now arc) in
    let left = to_z w128 c.loop-arc.left-bits in
    let term = c.term_at-left.result in
    let arc = c.loop-arc.arc in
    let few = few_streets town in
    let term_small = c.term_at-left.ensures.small in
    let small = left_small left term arc c.loop-arc.invariant.small term_small in
    let term_is : to_z w128 (of_z w128 term) ≡ term = cast term (omega arith) in
    let sum_is : to_z w128 (of_z w128 (left +ℤ to_z w128 (of_z w128 term))) ≡ left +ℤ term =
    ap (λ (z : ℤ). to_z w128 (of_z w128 (left +ℤ z))) term_is ∙ cast (left +ℤ term) (omega arith) in
    record {
      value = sum_is ∙ left_more town f left term arc c.loop-arc.invariant.value c.term_at-left.ensures.value;
      small = subst (λ (z : ℤ). unsigned_abs z ≤ (arc + 1) * 2 ^ 92) (sym sum_is) small;
    }

pub returns-clause-value : goal.returns-clause-value
returns-clause-value c =
    left_all c.args.town.now (λ arc. number_at c.args.sums.now arc *ℤ pos (numbers_of c.args.point.now arc)) (to_z w128 c.loop-arc.left-bits) c.loop-arc.arc (omega arith) c.loop-arc.invariant.value
