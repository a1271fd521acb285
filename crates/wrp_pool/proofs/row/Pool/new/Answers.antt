use Rattle.std.proofs.Common.{◌∙◌}
use Rattle.wrp_pool.proofs.Services.{base_rows_held}
use Rattle.wrp_pool.proofs.row.Pool.new.Goals as goal

pub returns : goal.returns
returns c =
    base_rows_held c.args.town.now c.in_ok-rows.rows.items c.from_vec.result c.in_ok-rows.ensures (c.from_vec.ensures ∙ c.in_ok-push_services.ensures)
