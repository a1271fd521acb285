use Rattle.std.proofs.Common.{◌≡◌, ◌+◌, drop, count_by}
use Rattle.wrp_town.specs.Streets.{demands_from}
use Rattle.wrp_rules.specs.Sets.{arc_at}
use Rattle.wrp_rows.specs.Patterns.{joins_by, demands_by}
use Rattle.wrp_rows.proofs.gather.demands_by.Given as goal

-- the count so far and that of the streets that are left are the whole
abbrev pub invariant-loop-i : goal.invariant-loop-i
invariant-loop-i l =
    l.count + count_by (λ d. joins_by l.town l.pattern (arc_at d)) (demands_from l.i (drop l.i l.town.streets)) ≡ demands_by l.town l.pattern
