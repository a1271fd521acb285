use Rattle.std.proofs.Common.{◌<◌, length}
use Rattle.std.specs.Prelude.{IfSome}
use Rattle.wrp_point_tour.proofs.joining.nearest_outside.Given as goal

abbrev pub invariant-loop-arc : goal.invariant-loop-arc
invariant-loop-arc l = IfSome l.nearest (λ j. j < length l.town.junctions)
