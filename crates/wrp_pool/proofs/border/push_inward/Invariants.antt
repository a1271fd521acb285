use Rattle.std.proofs.Common.{◌≡◌, ◌++◌, take}
use Rattle.std.specs.List.{flat_map}
use Rattle.wrp_pool.specs.Cuts.{entering_star, ones_on}
use Rattle.wrp_pool.proofs.border.push_inward.Given as goal

-- the arcs of the stars so far are added
abbrev pub invariant-loop-junction : goal.invariant-loop-junction
invariant-loop-junction l =
    l.terms.items ≡ l.initial.terms.items ++ ones_on (flat_map (entering_star l.graph l.set.set) (take l.junction-index l.junction-items))
