use Rattle.std.proofs.Common.{◌-◌, length}
use Rattle.wrp_tour.specs.Thinning.{IsKept}
use Rattle.wrp_tour.proofs.thinning.kept_pieces.Given as goal

-- what is kept of the pieces so far
abbrev pub invariant-loop-start : goal.invariant-loop-start
invariant-loop-start l = IsKept l.town l.arc l.steps l.start l.kept.items

abbrev pub decreases-loop-start : goal.decreases-loop-start
decreases-loop-start l = length l.steps - l.start
