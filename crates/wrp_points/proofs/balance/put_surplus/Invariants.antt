use Rattle.std.proofs.Common.{take}
use Rattle.wrp_points.specs.Balances.{HasSurplus}
use Rattle.wrp_points.proofs.balance.put_surplus.Given as goal

-- the surplus of the numbers so far is in the table
abbrev pub invariant-loop-pair : goal.invariant-loop-pair
invariant-loop-pair l = HasSurplus l.town (take l.pair-index l.numbers) l.surplus
