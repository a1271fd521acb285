use Rattle.std.proofs.Common.{◌≡◌, map, pos}
use Rattle.std.specs.List.{range_with_len}
use Rattle.wrp_town.specs.Arcs.{cost_or_zero}
use Rattle.wrp_lp.proofs.lines.costs_of.Given as goal

abbrev pub invariant-loop-arc : goal.invariant-loop-arc
invariant-loop-arc l = l.costs.items ≡ map (λ arc. pos (cost_or_zero l.town arc)) (range_with_len 0 l.arc)
