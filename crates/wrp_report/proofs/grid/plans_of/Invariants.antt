use Rattle.std.proofs.Common.{◌≡◌}
use Rattle.std.specs.List.{flat_map, range_with_len}
use Rattle.wrp_report.specs.Grid.{plans_in}
use Rattle.wrp_report.proofs.grid.plans_of.Given as goal

-- the streets of the rows so far are there
abbrev pub invariant-loop-y : goal.invariant-loop-y
invariant-loop-y l = l.plans.items ≡ flat_map (plans_in l.width l.height) (range_with_len 0 l.y)
