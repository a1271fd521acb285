use Rattle.std.proofs.Common.{◌≡◌, map, get_or, unsigned_abs}
use Rattle.wrp_sums.specs.Sums.{numbers_below}
use Rattle.wrp_tableau.specs.Kept.{system}
use Rattle.wrp_lp.specs.Reading.{optimal_multiplier}
use Rattle.wrp_lp.proofs.reading.optimal_mult.Given as goal

abbrev pub invariant-loop-i : goal.invariant-loop-i
invariant-loop-i l = l.mult.items ≡ map (λ k. (get_or l.chosen k 0, optimal_multiplier (system l.tableau) (unsigned_abs l.den) k)) (numbers_below l.i)
