use Rattle.std.proofs.Common.{◌≡◌, ◌++◌}
use Rattle.std.specs.List.{flat_map, range_with_len}
use Rattle.wrp_report.specs.Grid.{plans_at}
use Rattle.wrp_report.proofs.grid.push_row.Given as goal

-- the streets of the junctions so far are there
abbrev pub invariant-loop-x : goal.invariant-loop-x
invariant-loop-x l = l.plans.items ≡ l.initial.plans.items ++ flat_map (plans_at l.width l.height l.y) (range_with_len 0 l.x)
