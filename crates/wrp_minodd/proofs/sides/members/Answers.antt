use Rattle.std.proofs.Common.{◌∙◌, get_or, eq-eqb}
use Rattle.std.proofs.lemmas.Bool.{ne_eqb}
use Rattle.wrp_minodd.specs.Looks.{inner}
use Rattle.wrp_minodd.proofs.Pushed.{passing_more, passing_less}
use Rattle.wrp_minodd.proofs.sides.members.Goals as goal
use Rattle.wrp_minodd.proofs.sides.members.Goals.{then-label-eq1+in_ok-push, else-label-eq1}

pub loop-j-preserved : goal.loop-j-preserved
loop-j-preserved c =
    let labels = c.args.labels.now in
    elim c.if-label-eq1.branch [
      | then-label-eq1+in_ok-push w ↦ passing_more (inner labels) c.loop-j.j c.loop-j.set c.if-label-eq1.set c.loop-j.invariant (w.set-is ∙ w.in_ok-push.ensures.ok) (eq-eqb (get_or labels c.loop-j.j 0) 1 w.if-label-eq1.true)
      | else-label-eq1 w ↦ passing_less (inner labels) c.loop-j.j c.loop-j.set c.if-label-eq1.set c.loop-j.invariant w.set-is (ne_eqb (get_or labels c.loop-j.j 0) 1 w.if-label-eq1.false)
    ]
