use Rattle.std.proofs.Common.{◌≡◌, ◌++◌, not, filter, take}
use Rattle.wrp_town.specs.Arcs.{tail_of}
use Rattle.wrp_rules.specs.Sets.{is_in}
use Rattle.wrp_pool.specs.Cuts.{ones_on}
use Rattle.wrp_pool.proofs.border.push_entering.Given as goal

-- the arcs so far that lead outside are added
abbrev pub invariant-loop-arc : goal.invariant-loop-arc
invariant-loop-arc l =
    l.terms.items ≡ l.initial.terms.items ++ ones_on (filter (λ arc. not (is_in l.set.set (tail_of l.graph arc))) (take l.arc-index l.arc-items))
