use Rattle.std.proofs.Common.{◌≡◌, drop}
use Rattle.std.specs.List.{list_all}
use Rattle.wrp_check.specs.Leaks.{stays_at}
use Rattle.wrp_check.proofs.apart.is_star_shut.Given as goal

-- the arcs that come decide
abbrev pub invariant-loop-arc : goal.invariant-loop-arc
invariant-loop-arc l =
    list_all (stays_at l.graph l.set.set l.boxes) (drop l.arc-index l.arc-items) ≡ list_all (stays_at l.graph l.set.set l.boxes) l.arc-items
