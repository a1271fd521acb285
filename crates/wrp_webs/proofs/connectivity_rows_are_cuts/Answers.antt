use Rattle.wrp_webs.proofs.ConnRows.{conn_row_met, leaving_outside, one_node_suffices}
use Rattle.wrp_webs.proofs.connectivity_rows_are_cuts.Goals as goal

pub returns : goal.returns
returns c = record { rows = conn_row_met; turned = leaving_outside; suffices = one_node_suffices }
