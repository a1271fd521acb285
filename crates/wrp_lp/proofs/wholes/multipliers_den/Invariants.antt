use Rattle.wrp_tableau.specs.Kept.{system}
use Rattle.wrp_lp.specs.Wholes.{IsDenOf, AreMultipliersWhole}
use Rattle.wrp_lp.proofs.wholes.multipliers_den.Given as goal

abbrev pub invariant-loop-i : goal.invariant-loop-i
invariant-loop-i l = IsDenOf (AreMultipliersWhole (system l.tableau) l.least l.i) l.den
