use Rattle.wrp_conn.specs.Shrunk.{ArePartStreets}
use Rattle.wrp_conn.proofs.shrunk.part_streets.Given as goal

-- the streets so far
abbrev pub invariant-loop-street : goal.invariant-loop-street
invariant-loop-street l = ArePartStreets l.town l.parts.count l.parts.of l.street l.streets.items
