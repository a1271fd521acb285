use Rattle.wrp_pool.specs.Sparse.{AreBalancesBelow}
use Rattle.wrp_pool.proofs.base.balance_rows.Given as goal

-- the arcs so far are in the rows of their ends
abbrev pub invariant-loop-arc : goal.invariant-loop-arc
invariant-loop-arc l = AreBalancesBelow l.town l.arc l.rows.items
