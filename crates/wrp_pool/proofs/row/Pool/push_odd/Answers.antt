use Rattle.std.proofs.Common.{arith}
use Rattle.std.proofs.lemmas.Result.{on_ok_weaker}
use Rattle.wrp_sums.proofs.Integers.{casts}
use Rattle.wrp_pool.proofs.Borders.{odd_gained, few_crossing}
use Rattle.wrp_pool.proofs.row.Pool.push_odd.Goals as goal

pub returns : goal.returns
returns c =
    on_ok_weaker c.push_row.result
    (λ added. odd_gained c.args.graph.now c.args.set.now c.requires.set _ _ _ _ _ _ added c.in_ok-push_inward.ensures c.in_ok-push_outward.ensures c.new-terms.ensures.items (omega (arith, casts, c.requires.crossing, few_crossing c.args.graph.now c.args.set.now.set)))
    c.push_row.ensures
