use Rattle.std.proofs.Common.{◌≡◌, ◌+◌}
use Rattle.wrp_tableau.specs.Kept.{system}
use Rattle.wrp_round.specs.Places.{IsPlace}
use Rattle.wrp_round.specs.Roundings.{first_pairs}
use Rattle.wrp_round.proofs.naming.pairs_of.Given as goal

-- the pairs of the lines so far, and the place of the next line's slack
abbrev pub invariant-loop-i : goal.invariant-loop-i
invariant-loop-i l = record {
  pairs : l.pairs.items ≡ first_pairs (system l.table) l.chosen l.r l.i;
  place : IsPlace l.terms l.at (l.width + l.i);
}
