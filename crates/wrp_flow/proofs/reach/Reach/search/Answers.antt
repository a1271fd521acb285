use Rattle.std.proofs.Common.{arith}
use Rattle.wrp_flow.proofs.Searches.{closed_from}
use Rattle.wrp_flow.proofs.reach.Reach.search.Goals as goal

pub loop-at-init : goal.loop-at-init
loop-at-init c = record { search = c.in_ok-start.ensures c.args.room.now; within = omega arith; done = λ k below. absurd (omega arith) }

pub returns-after-loop-at-clause-closed : goal.returns-after-loop-at-clause-closed
returns-after-loop-at-clause-closed c = λ unmarked.
    closed_from c.args.net.now c.args.room.now c.loop-at.self.marks.items c.loop-at.self.queue.items c.loop-at.invariant.search.queued
    (λ k below. c.loop-at.invariant.done k (omega (arith, c.len.ensures, c.loop-at.self.queue.ok.0, c.loop-at-test.false)))
