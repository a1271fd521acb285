use Rattle.std.proofs.Common.{arith}
use Rattle.wrp_tour.proofs.Pieces.{thinner_still, few_more, few_past}
use Rattle.wrp_tour.proofs.thinning.thinned.Goals as goal

pub loop-arc-preserved : goal.loop-arc-preserved
loop-arc-preserved c =
    let town = c.args.town.now in
    let thin = c.in_ok-thin.thin in
    record {
      thinner = thinner_still town c.args.steps c.loop-arc.thin thin c.loop-arc.invariant.thinner c.in_ok-thin.ensures.thinner;
      few = few_more town c.loop-arc.thin thin c.loop-arc.arc c.in_ok-thin.ensures.thinner c.loop-arc.invariant.few c.in_ok-thin.ensures.few;
    }

pub returns-clause-few : goal.returns-clause-few
returns-clause-few c =
    few_past c.args.town.now c.loop-arc.thin c.loop-arc.arc c.loop-arc.invariant.thinner.tour (omega (arith, c.loop-arc-test.false, c.loop-arc.auto.arc-end, c.len.ensures)) c.loop-arc.invariant.few
