use Rattle.std.proofs.Common.{◌≡◌, ◌*◌, ◌^◌, ◌≤◌}
use Rattle.wrp_town.specs.Arcs.{head_of}
use Rattle.wrp_webs.specs.Nets.{sum_at_end}
use Rattle.wrp_odd.specs.Points.{numbers_of}
use Rattle.wrp_trials.proofs.points.entering.Given as goal

-- the sum over the arcs so far
abbrev pub invariant-loop-arc : goal.invariant-loop-arc
invariant-loop-arc l = record {
  sum : l.sum ≡ sum_at_end l.arc (head_of l.town) (numbers_of l.point) l.j;
  small : l.sum ≤ l.arc * 2 ^ 72;
}
