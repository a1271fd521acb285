use Rattle.std.proofs.Common.{arith}
use Rattle.wrp_grammar.proofs.PairNumbers.{pairs-start, pairs-more, pairs-bad}
use Rattle.wrp_grammar.proofs.ranges.pairs_number.Goals as goal

pub loop-part-init : goal.loop-part-init
loop-part-init c = record { within = omega arith; keeps = pairs-start c.args.most c.args.room c.args.line.now }

pub returns-in-Err-clause-first : goal.returns-in-Err-clause-first
returns-in-Err-clause-first c = λ some broken.
    pairs-bad c.args.most c.args.room c.loop-part.low c.loop-part.room c.args.line.now c.loop-part.left.now c.in-Some.part.now c.in-Some.others.now c.in-Err.at _
    c.loop-part.invariant.keeps c.in-Some.ensures.some some c.in-Err.ensures.bad c.in-Err.ensures.place (omega arith)

pub loop-part-preserved : goal.loop-part-preserved
loop-part-preserved c = record {
  within = omega (arith, c.in-Some.ensures.length, c.loop-part.invariant.within);
  keeps = pairs-more c.args.most c.args.room c.loop-part.low c.loop-part.room c.in-Ok.next c.saturating_sub-room.result c.args.line.now c.loop-part.left.now c.in-Some.part.now c.in-Some.others.now
      c.loop-part.invariant.keeps c.in-Some.ensures.some c.in-Some.ensures.length c.in-Ok.ensures.good c.in-Ok.ensures.next c.saturating_sub-room.ensures;
}
