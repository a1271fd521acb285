use Rattle.std.proofs.Common.{◌≡◌, ◌++◌, map, take}
use Rattle.wrp_town.specs.Arcs.{head_of}
use Rattle.wrp_reach.proofs.search.push_heads.Given as goal

-- the heads of the arcs so far are there
abbrev pub invariant-loop-arc : goal.invariant-loop-arc
invariant-loop-arc l = l.heads.items ≡ l.initial.heads.items ++ map (head_of l.town) (take l.arc-index l.arcs)
