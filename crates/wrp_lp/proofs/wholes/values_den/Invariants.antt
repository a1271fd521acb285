use Rattle.wrp_tableau.specs.Kept.{system}
use Rattle.wrp_lp.specs.Wholes.{IsDenOf, AreValuesWhole}
use Rattle.wrp_lp.proofs.wholes.values_den.Given as goal

abbrev pub invariant-loop-r : goal.invariant-loop-r
invariant-loop-r l = IsDenOf (AreValuesWhole (system l.tableau) l.r) l.den
