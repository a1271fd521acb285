use Rattle.wrp_postman.proofs.ToldStatuses.{line_cut}
use Rattle.wrp_postman.proofs.telling.put.Goals as goal

pub returns-in-Err : goal.returns-in-Err
returns-in-Err g c = rw c.cut_status.ensures (line_cut _ _ c.args.status c.args.line.now c.requires (c.in-Err.ensures.err, c.in-Err.ensures.cause))
