use Rattle.std.proofs.Common.{arith}
use Rattle.wrp_reach.proofs.Steps.{marking_begins, marking_goes, marking_ends}
use Rattle.wrp_reach.proofs.search.mark_done.Goals as goal

pub loop-j-init : goal.loop-j-init
loop-j-init c = marking_begins c.args.label c.args.marks.now

pub loop-j-preserved : goal.loop-j-preserved
loop-j-preserved c =
    marking_goes c.args.label c.loop-j.j-index c.args.junctions.now c.args.marks.now c.loop-j.marks c.loop-j-test.true
    (omega (arith, c.requires c.loop-j.j-index 0 c.loop-j-test.true, c.loop-j.auto.marks)) c.loop-j.invariant

pub returns : goal.returns
returns c =
    let m = marking_ends c.args.label c.loop-j.j-index c.args.junctions.now c.args.marks.now c.loop-j.marks c.loop-j-test.false c.loop-j.invariant in
    record { marked = m.marked; others = m.others }
