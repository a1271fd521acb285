use Rattle.std.proofs.Common.{◌≡◌, drop}
use Rattle.wrp_check.specs.Leaks.{are_shut}
use Rattle.wrp_check.proofs.apart.is_shut.Given as goal

-- the junctions that come decide
abbrev pub invariant-loop-junction : goal.invariant-loop-junction
invariant-loop-junction l =
    are_shut l.graph l.set.set l.boxes (drop l.junction-index l.junction-items) ≡ are_shut l.graph l.set.set l.boxes l.junction-items
