use Rattle.wrp_euler.proofs.TrailLaws.{run_begins, run_goes, run_stops, work_goes}
use Rattle.wrp_euler.proofs.trail.Trail.run.Goals as goal

pub loop-trail-init : goal.loop-trail-init
loop-trail-init c = run_begins c.args.graph.now c.args.counts.now c.args.base c.in_ok-trail.trail c.in_ok-trail.ensures

pub loop-trail-preserved : goal.loop-trail-preserved
loop-trail-preserved c =
    run_goes c.args.graph.now c.args.counts.now c.args.base c.loop-trail.trail c.turn.new.self _ c.loop-trail.invariant c.requires.balanced c.in_ok-turn.ensures c.if-branch.true

pub loop-trail-smaller : goal.loop-trail-smaller
loop-trail-smaller c = work_goes c.args.graph.now c.loop-trail.trail c.turn.new.self _ c.loop-trail.invariant.kept c.in_ok-turn.ensures c.if-branch.true

pub returns : goal.returns
returns c =
    run_stops c.args.graph.now c.args.counts.now c.args.base c.loop-trail.trail c.turn.new.self _ c.loop-trail.invariant c.requires.balanced c.in_ok-turn.ensures c.if-branch.false
