use Rattle.std.proofs.Common.{◌==◌, Bool, cond, slice_index, ap, sym, ◌∙◌, eq-eqb}
use Rattle.std.proofs.lemmas.Bool.{ne_eqb}
use Rattle.wrp_minodd.proofs.Pushed.{values_more}
use Rattle.wrp_minodd.proofs.sides.shrunk.Goals as goal
use Rattle.wrp_minodd.proofs.sides.shrunk.Goals.{then-labels-j, else-labels-j}

pub loop-j-preserved : goal.loop-j-preserved
loop-j-preserved c =
    let labels = c.args.labels.now in
    let map = c.args.map.now in
    let j = c.loop-j.j in
    let label = c.args.label in
    let t = c.args.t in
    values_more (λ k. cond (slice_index labels k == label) (slice_index map k) t) j c.if-labels-j.push c.loop-j.new c.push.new.self c.loop-j.invariant c.in_ok-push.ensures.ok
    (elim c.if-labels-j.branch [
      | then-labels-j w ↦ w.push-is ∙ sym (ap (λ (b : Bool). cond b (slice_index map j) t) (eq-eqb (slice_index labels j) label w.if-labels-j.true))
      | else-labels-j w ↦ w.push-is ∙ sym (ap (λ (b : Bool). cond b (slice_index map j) t) (ne_eqb (slice_index labels j) label w.if-labels-j.false))
    ])
