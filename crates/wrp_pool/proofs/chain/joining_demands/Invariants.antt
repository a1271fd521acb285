use Rattle.std.proofs.Common.{◌≡◌, ◌+◌, drop, count_by}
use Rattle.wrp_town.specs.Streets.{demands_from}
use Rattle.wrp_rules.specs.Sets.{arc_at}
use Rattle.wrp_rules.specs.Rows.{joins_ends, joining_demands}
use Rattle.wrp_pool.proofs.chain.joining_demands.Given as goal

-- those so far, and those of the streets that are left, are all
abbrev pub invariant-loop-i : goal.invariant-loop-i
invariant-loop-i l =
    l.joining + count_by (λ d. joins_ends l.town l.last l.of (arc_at d)) (demands_from l.i (drop l.i l.town.streets)) ≡ joining_demands l.town l.last l.of
