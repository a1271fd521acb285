use Rattle.std.proofs.lemmas.Result.{on_ok_weaker}
use Rattle.wrp_pool.proofs.Borders.{conn_gained}
use Rattle.wrp_pool.proofs.row.Pool.push_conn.Goals as goal

pub returns : goal.returns
returns c =
    on_ok_weaker c.push_row.result
    (λ added. conn_gained c.args.graph.now c.args.set.now c.requires _ _ _ _ added c.in_ok-push_outward.ensures c.new-terms.ensures.items)
    c.push_row.ensures
