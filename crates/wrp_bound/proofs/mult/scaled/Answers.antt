use Rattle.std.proofs.Common.{ℕ, ◌/◌, pos, get_or, FitsSigned, rules, ap, ◌∙◌}
use Rattle.std.specs.Int.{w128}
use Rattle.std.proofs.lemmas.Int.{to_z-of_z}
use Rattle.wrp_bound.specs.Mults.{with_pair}
use Rattle.wrp_bound.proofs.Scaled.{scaled_step}
use Rattle.wrp_bound.proofs.mult.scaled.Goals as goal

pub loop-pair-preserved : goal.loop-pair-preserved
loop-pair-preserved c =
    let q = get_or c.args.mult.now c.loop-pair.pair-index (0, pos 0) in
    let fits : FitsSigned w128 q.1 = search rules in
    let size = rw (to_z-of_z w128 q.1 fits) at c.unsigned_abs.ensures.value in
    record {
      value = scaled_step c.args.scale c.args.mult.now c.loop-pair.pair-index (0, pos 0) c.loop-pair.list c.push.new.list c.loop-pair-test.true c.loop-pair.invariant.value
          (c.in_ok-push.ensures.value ∙ ap (λ (n : ℕ). with_pair c.loop-pair.list (q.0, n / c.args.scale)) size);
      rows = c.in_ok-push.ensures.rows c.loop-pair.invariant.rows;
    }
