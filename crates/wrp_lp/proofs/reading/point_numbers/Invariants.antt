use Rattle.std.proofs.Common.{◌≡◌, map, unsigned_abs}
use Rattle.wrp_sums.specs.Sums.{numbers_below}
use Rattle.wrp_tableau.specs.Kept.{system}
use Rattle.wrp_lp.proofs.Readings.{number_within}
use Rattle.wrp_lp.proofs.reading.point_numbers.Given as goal

-- the numbers by the rows so far
abbrev pub invariant-loop-r : goal.invariant-loop-r
invariant-loop-r l = l.at.items ≡ map (number_within (system l.tableau) (unsigned_abs l.den) l.r) (numbers_below l.width)
