use Rattle.std.proofs.Common.{take}
use Rattle.wrp_pool.specs.Tallies.{Grows}
use Rattle.wrp_pool.proofs.combine.add_terms.Given as goal

-- the terms so far are added
abbrev pub invariant-loop-term : goal.invariant-loop-term
invariant-loop-term l = Grows l.town (take l.term-index l.terms) l.weight l.initial.tally l.tally
