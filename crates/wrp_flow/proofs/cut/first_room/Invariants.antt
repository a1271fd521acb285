use Rattle.wrp_flow.proofs.Rooms.{HasRooms}
use Rattle.wrp_flow.proofs.cut.first_room.Given as goal

-- the arcs so far
abbrev pub invariant-loop-arc : goal.invariant-loop-arc
invariant-loop-arc l = HasRooms l.net l.arc-index l.room.items
