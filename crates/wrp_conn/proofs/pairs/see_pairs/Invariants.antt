use Rattle.std.proofs.Common.{◌≤◌, length}
use Rattle.wrp_conn.specs.Founds.{AreFound}
use Rattle.wrp_conn.proofs.pairs.see_pairs.Given as goal

-- the cuts so far
abbrev pub invariant-loop-at : goal.invariant-loop-at
invariant-loop-at l = record {
  found : AreFound l.town l.point l.cuts.items;
  grown : length l.initial.cuts.items ≤ length l.cuts.items;
}
