use Rattle.std.proofs.lemmas.Bool.{not-true}
use Rattle.std.proofs.lemmas.Bool.Decides.{nat_tests}
use Rattle.std.proofs.Common.{arith, sym}
use Rattle.wrp_grammar.proofs.LineFronts.{leaves-more}
use Rattle.wrp_grammar.proofs.faults.form_place.Goals as goal

pub loop-kind-preserved : goal.loop-kind-preserved
loop-kind-preserved c =
    leaves-more c.args.kinds.now c.args.line.now c.loop-kind.kind-index c.loop-kind.front c.in-Some.at c.max-front.result _ c.loop-kind-test.true c.loop-kind.invariant
    (record { broken = not-true _ (sym c.in-Some.ensures.broken); front = c.in-Some.ensures.front }) (grind (arith, nat_tests))
