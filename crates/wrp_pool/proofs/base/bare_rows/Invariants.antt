use Rattle.std.proofs.Common.{◌≡◌, replicate}
use Rattle.wrp_pool.specs.Sparse.{bare_row}
use Rattle.wrp_pool.proofs.base.bare_rows.Given as goal

-- as many rows as turns so far
abbrev pub invariant-loop : goal.invariant-loop
invariant-loop l = l.rows.items ≡ replicate l.counter bare_row
