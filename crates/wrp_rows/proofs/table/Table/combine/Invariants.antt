use Rattle.std.proofs.Common.{take}
use Rattle.wrp_rows.specs.Tables.{AreCombined}
use Rattle.wrp_rows.proofs.table.Table.combine.Given as goal

-- the rows of the pairs so far are summed
abbrev pub invariant-loop-pair : goal.invariant-loop-pair
invariant-loop-pair l = AreCombined l.self (take l.pair-index l.mult) l.sums l.side
