use Rattle.std.proofs.Common.{take}
use Rattle.wrp_points.specs.Points.{HasNumbers}
use Rattle.wrp_points.proofs.numbers.put_numbers.Given as goal

-- the numbers so far are in the table
abbrev pub invariant-loop-pair : goal.invariant-loop-pair
invariant-loop-pair l = HasNumbers (take l.pair-index l.numbers) l.table
