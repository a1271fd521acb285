use Rattle.std.proofs.Common.{◌==◌, cond, slice_index}
use Rattle.wrp_minodd.proofs.Pushed.{AreValues}
use Rattle.wrp_minodd.proofs.sides.shrunk.Given as goal

-- the junctions so far
abbrev pub invariant-loop-j : goal.invariant-loop-j
invariant-loop-j l = AreValues (λ j. cond (slice_index l.labels j == l.label) (slice_index l.map j) l.t) l.j l.new
