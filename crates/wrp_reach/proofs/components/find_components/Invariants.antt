use Rattle.wrp_reach.specs.Search.{IsAtRoot}
use Rattle.wrp_reach.proofs.components.find_components.Given as goal

-- all that the roots so far reach is done
abbrev pub invariant-loop-root : goal.invariant-loop-root
invariant-loop-root l = IsAtRoot l.graph l.root l.search
