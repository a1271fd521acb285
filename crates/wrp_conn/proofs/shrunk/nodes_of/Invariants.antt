use Rattle.std.proofs.Common.{◌≡◌, ◌<◌, ℕ, length, get_or}
use Rattle.wrp_webs.specs.TownWebs.{part_node}
use Rattle.wrp_conn.specs.Shrunk.{named_by}
use Rattle.wrp_conn.proofs.shrunk.nodes_of.Given as goal

-- the junctions so far
abbrev pub invariant-loop-j : goal.invariant-loop-j
invariant-loop-j l = record {
  long : length l.nodes.items ≡ l.j;
  is : (j : ℕ) → j < l.j → get_or l.nodes.items j 0 ≡ part_node l.parts.of (named_by l.town l.streets) j;
}
