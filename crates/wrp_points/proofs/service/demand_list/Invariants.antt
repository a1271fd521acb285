use Rattle.std.proofs.Common.{◌≡◌, ◌++◌, map, drop}
use Rattle.wrp_town.specs.Streets.{demands_from}
use Rattle.wrp_town.specs.Arcs.{demands}
use Rattle.wrp_points.specs.Demands.{arcs_of}
use Rattle.wrp_points.proofs.service.demand_list.Given as goal

-- with those of the streets that are left, the demands are all
abbrev pub invariant-loop-i : goal.invariant-loop-i
invariant-loop-i l = map arcs_of l.list ++ demands_from l.i (drop l.i l.town.streets) ≡ demands l.town
