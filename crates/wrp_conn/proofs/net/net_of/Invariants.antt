use Rattle.wrp_odd.specs.Points.{numbers_of}
use Rattle.wrp_conn.specs.Shrunk.{IsNetBelow}
use Rattle.wrp_conn.proofs.net.net_of.Given as goal

-- the net of the arcs so far
abbrev pub invariant-loop-arc : goal.invariant-loop-arc
invariant-loop-arc l = IsNetBelow l.town l.nodes (numbers_of l.point) l.arc l.arcs.items
