use Rattle.std.proofs.Common.{◌≡◌, ◌-◌, filter}
use Rattle.std.specs.List.{list_all, range_with_len}
use Rattle.wrp_town.specs.Arcs.{is_legal, legal_arcs}
use Rattle.wrp_tree.specs.Leaks.{stays_at}
use Rattle.wrp_tree.proofs.apart.are_shut.Given as goal

-- the arcs that come decide
abbrev pub invariant-loop-arc : goal.invariant-loop-arc
invariant-loop-arc l =
    list_all (stays_at l.town l.marks l.hi) (filter (is_legal l.town) (range_with_len l.arc (l.arcs - l.arc)))
    ≡ list_all (stays_at l.town l.marks l.hi) (legal_arcs l.town)
