use Rattle.wrp_odd.proofs.Singles.{HasSingles}
use Rattle.wrp_odd.proofs.candidates.add_singles.Given as goal

abbrev pub invariant-loop-j : goal.invariant-loop-j
invariant-loop-j l = HasSingles l.town l.point l.j l.found
