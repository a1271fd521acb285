use Rattle.std.proofs.Common.{arith}
use Rattle.wrp_town.specs.Arcs.{tail_of}
use Rattle.wrp_town.proofs.TownLaws.{few_streets}
use Rattle.wrp_odd.specs.Points.{numbers_of}
use Rattle.wrp_trials.proofs.Balances.{sum_further}
use Rattle.wrp_trials.proofs.points.leaving.Goals as goal

pub overflow_add-sum : goal.overflow_add-sum
overflow_add-sum c = omega (arith, few_streets c.args.town.now)

pub loop-arc-preserved : goal.loop-arc-preserved
loop-arc-preserved c = record {
  sum = sum_further (tail_of c.args.town.now) (numbers_of c.args.point.now) c.args.j c.loop-arc.arc c.loop-arc.sum c.counted-sum.result c.tail.result c.number_at.result
      c.loop-arc.invariant.sum c.tail.ensures.value c.number_at.ensures.value c.counted-sum.ensures.value;
  small = omega arith;
}
