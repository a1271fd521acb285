use Rattle.wrp_euler.proofs.TrailLaws.{IsRun, work}
use Rattle.wrp_euler.proofs.trail.Trail.run.Given as goal

-- the trail keeps what every trail over these counts does
abbrev pub invariant-loop-trail : goal.invariant-loop-trail
invariant-loop-trail l = IsRun l.graph l.counts l.base l.trail

abbrev pub decreases-loop-trail : goal.decreases-loop-trail
decreases-loop-trail l = work l.trail
