use Rattle.std.proofs.Common.{arith}
use Rattle.wrp_rows.proofs.Rounded.{divided_all}
use Rattle.wrp_round.proofs.judging.divide.Goals as goal

pub returns : goal.returns
returns c = divided_all c.args.sums.now c.loop-sum.sums c.args.divisor c.requires.divisor (omega arith) (λ arc below. c.loop-sum.invariant.done arc (omega arith))
