use Rattle.std.proofs.Common.{◌≡◌, true, map, drop, length}
use Rattle.std.specs.List.{list_all}
use Rattle.wrp_points.specs.Demands.{arcs_of, is_inside, is_met}
use Rattle.wrp_points.proofs.service.meets_all.Given as goal

-- the demands that come are inside, and decide
abbrev pub invariant-loop-demand : goal.invariant-loop-demand
invariant-loop-demand l = record {
  inside : list_all (is_inside (length l.table)) (map arcs_of (drop l.demand-index l.demands)) ≡ true;
  decide : list_all (is_met l.table l.denominator) (map arcs_of (drop l.demand-index l.demands)) ≡ list_all (is_met l.table l.denominator) (map arcs_of l.demands);
}
