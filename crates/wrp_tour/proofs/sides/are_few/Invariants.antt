use Rattle.std.proofs.Common.{◌≡◌, ◌^◌, ◌≤◌, take, sum}
use Rattle.wrp_tour.proofs.sides.are_few.Given as goal

abbrev pub invariant-loop-count : goal.invariant-loop-count
invariant-loop-count l = (l.total ≡ sum (take l.count-index l.counts)) × (l.total ≤ 2 ^ 25)
