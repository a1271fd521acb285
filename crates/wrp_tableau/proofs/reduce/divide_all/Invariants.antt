use Rattle.wrp_tableau.proofs.Dividing.{Dividing}
use Rattle.wrp_tableau.proofs.reduce.divide_all.Given as goal

abbrev pub invariant-loop-k : goal.invariant-loop-k
invariant-loop-k l = Dividing l.factor l.initial.terms.items l.k l.terms.items
