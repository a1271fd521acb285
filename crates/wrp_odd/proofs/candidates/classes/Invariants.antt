use Rattle.std.proofs.Common.{◌≡◌}
use Rattle.wrp_odd.proofs.Classes.{labelled}
use Rattle.wrp_odd.proofs.candidates.classes.Given as goal

-- the entries so far
abbrev pub invariant-loop-j : goal.invariant-loop-j
invariant-loop-j l = l.entries.items ≡ labelled l.labels l.j
