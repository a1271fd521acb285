use Rattle.std.proofs.Common.{◌≡◌, map}
use Rattle.std.specs.List.{range_with_len}
use Rattle.wrp_kc.specs.Candidates.{set_at}
use Rattle.wrp_kc.proofs.sets.sets_for.Given as goal

-- the sets of the junctions so far
abbrev pub invariant-loop-j : goal.invariant-loop-j
invariant-loop-j l = l.of ≡ map (set_at l.parts.count l.parts.of l.own l.u) (range_with_len 0 l.j)
