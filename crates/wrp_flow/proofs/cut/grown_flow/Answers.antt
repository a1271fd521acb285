use Rattle.std.proofs.Common.{◌≡◌, ◌+◌, ℕ, List, length, sym, subst, arith}
use Rattle.std.proofs.lemmas.List.{with_items_is}
use Rattle.wrp_flow.specs.Sides.{IsResidual}
use Rattle.wrp_flow.proofs.Cuts.{value_small}
use Rattle.wrp_flow.proofs.cut.grown_flow.Goals as goal

pub overflow_add-value : goal.overflow_add-value
overflow_add-value c =
    let net = c.args.net.now in
    let grown = c.push-more.ensures.pushed c.loop-value.value (subst (λ (r : List ℕ). IsResidual net c.args.s c.args.t c.loop-value.value r) (sym c.as_mut_slice.ensures.value) c.loop-value.invariant.residual) in
    omega (arith, value_small net c.requires.net c.args.s c.args.t c.requires.poles (c.loop-value.value + c.push-more.result) c.push-more.new.room grown)

pub loop-value-preserved : goal.loop-value-preserved
loop-value-preserved c =
    let net = c.args.net.now in
    let grown = c.push-more.ensures.pushed c.loop-value.value (subst (λ (r : List ℕ). IsResidual net c.args.s c.args.t c.loop-value.value r) (sym c.as_mut_slice.ensures.value) c.loop-value.invariant.residual) in
    let long : length c.push-more.new.room ≡ c.loop-value.room.len = omega (arith, grown.long, c.loop-value.invariant.residual.long, c.loop-value.room.ok.0) in
    record {
      residual = subst (λ (r : List ℕ). IsResidual net c.args.s c.args.t (c.loop-value.value + c.push-more.result) r) (sym (with_items_is c.loop-value.room c.push-more.new.room long)) grown;
      marks = c.in_ok-search.ensures.reached.long;
    }
