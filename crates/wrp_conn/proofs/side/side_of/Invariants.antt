use Rattle.std.proofs.Common.{cond, not, slice_index}
use Rattle.wrp_rules.specs.Sets.{is_in}
use Rattle.wrp_conn.proofs.Marks.{AreMade}
use Rattle.wrp_conn.proofs.side.side_of.Given as goal

-- the marks so far
abbrev pub invariant-loop-node : goal.invariant-loop-node
invariant-loop-node l = AreMade (λ j. cond l.inside (is_in l.set (slice_index l.nodes j)) (not (is_in l.set (slice_index l.nodes j)))) l.node-index l.side.items
