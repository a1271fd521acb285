use Rattle.std.proofs.Common.{◌≡◌, length}
use Rattle.wrp_check.specs.Marks.{are_in_range}
use Rattle.wrp_check.proofs.tour.in_range.Given as goal

abbrev pub invariant-loop-step : goal.invariant-loop-step
invariant-loop-step l =
    are_in_range l.town l.ahead ≡ are_in_range l.town l.steps

abbrev pub decreases-loop-step : goal.decreases-loop-step
decreases-loop-step l = length l.ahead
