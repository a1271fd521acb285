use Rattle.wrp_progress.proofs.Keeping.{goes_on_keeps_nodes, still_done, done_grows, done_rises}
use Rattle.wrp_progress.proofs.nodes_go_on.Goals as goal

pub returns-clause-there : goal.returns-clause-there
returns-clause-there c = λ town old new goes. (goes_on_keeps_nodes town old new goes).there

pub returns-clause-boxes : goal.returns-clause-boxes
returns-clause-boxes c = λ town old new i goes below. ((goes_on_keeps_nodes town old new goes).lo i below, (goes_on_keeps_nodes town old new goes).hi i below)

pub returns-clause-closed : goal.returns-clause-closed
returns-clause-closed c = still_done

pub returns-clause-grows : goal.returns-clause-grows
returns-clause-grows c = done_grows

pub returns-clause-rises : goal.returns-clause-rises
returns-clause-rises c = done_rises
