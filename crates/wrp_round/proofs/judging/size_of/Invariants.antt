use Rattle.std.proofs.Common.{◌≡◌, ℕ, ◌<◌, ◌≤◌, true, unsigned_abs}
use Rattle.wrp_town.specs.Arcs.{is_legal}
use Rattle.wrp_rows.specs.Tables.{number_at}
use Rattle.wrp_round.specs.Judging.{row_with, IsWithin}
use Rattle.wrp_round.proofs.judging.size_of.Given as goal

-- the greatest size so far
abbrev pub invariant-loop-arc : goal.invariant-loop-arc
invariant-loop-arc l = record {
  side : unsigned_abs l.side ≤ l.size;
  coefs : (arc : ℕ) → arc < l.arc → is_legal l.town arc ≡ true → unsigned_abs (number_at l.sums arc) ≤ l.size;
  least : (most : ℕ) → IsWithin l.town (row_with l.sums l.side) most → l.size ≤ most;
}
