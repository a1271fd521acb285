use Rattle.std.proofs.Common.{◌≡◌, ◌*◌, ◌^◌, ◌≤◌, take}
use Rattle.std.specs.List.{sum_by}
use Rattle.wrp_town.specs.Arcs.{cost_or_zero}
use Rattle.wrp_points.proofs.price.cost_sum.Given as goal

-- the total so far, which is small
abbrev pub invariant-loop-pair : goal.invariant-loop-pair
invariant-loop-pair l = record {
  sum : l.total ≡ sum_by (λ q. cost_or_zero l.town q.0 * q.1) (take l.pair-index l.numbers);
  small : l.total ≤ l.pair-index * 2 ^ 102;
}
