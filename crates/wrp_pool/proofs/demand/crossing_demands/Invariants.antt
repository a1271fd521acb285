use Rattle.std.proofs.Common.{◌≡◌, ◌+◌, drop, count_by}
use Rattle.wrp_town.specs.Streets.{demands_from}
use Rattle.wrp_rules.specs.Sets.{crosses, arc_at, crossing_demands}
use Rattle.wrp_pool.proofs.demand.crossing_demands.Given as goal

-- those so far, and those of the streets that are left, are all
abbrev pub invariant-loop-i : goal.invariant-loop-i
invariant-loop-i l =
    l.crossing + count_by (λ d. crosses l.town l.set.set (arc_at d)) (demands_from l.i (drop l.i l.town.streets)) ≡ crossing_demands l.town l.set.set
