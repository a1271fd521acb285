use Rattle.std.proofs.Common.{◌≡◌, ◌-◌, filter}
use Rattle.std.specs.List.{list_all, range_with_len}
use Rattle.wrp_town.specs.Arcs.{is_legal, legal_arcs}
use Rattle.wrp_rules.specs.Rules.{falls_along}
use Rattle.wrp_points.proofs.labels.fall.Given as goal

-- the arcs that come decide
abbrev pub invariant-loop-arc : goal.invariant-loop-arc
invariant-loop-arc l =
    list_all (falls_along l.town l.labels) (filter (is_legal l.town) (range_with_len l.arc (l.arcs - l.arc)))
    ≡ list_all (falls_along l.town l.labels) (legal_arcs l.town)
