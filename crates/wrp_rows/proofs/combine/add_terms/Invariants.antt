use Rattle.std.proofs.Common.{take}
use Rattle.wrp_rows.specs.Tables.{AreAdded}
use Rattle.wrp_rows.proofs.combine.add_terms.Given as goal

-- the terms so far are added
abbrev pub invariant-loop-term : goal.invariant-loop-term
invariant-loop-term l = AreAdded (take l.term-index l.terms) l.weight l.initial.sums l.sums
