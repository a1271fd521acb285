use Rattle.std.proofs.Common.{◌≡◌, map, get_or}
use Rattle.wrp_sums.specs.Sums.{numbers_below}
use Rattle.wrp_tableau.specs.Kept.{system}
use Rattle.wrp_lp.specs.Reading.{empty_multiplier}
use Rattle.wrp_lp.proofs.reading.empty_mult.Given as goal

abbrev pub invariant-loop-i : goal.invariant-loop-i
invariant-loop-i l = l.mult.items ≡ map (λ k. (get_or l.chosen k 0, empty_multiplier (system l.tableau) l.row k)) (numbers_below l.i)
