use Rattle.std.proofs.Common.{◌≡◌, ℕ, ◌<◌, ◌≤◌, false, length, slice_index}
use Rattle.wrp_town.specs.Arcs.{is_legal, demands}
use Rattle.wrp_worked.proofs.row_tests.are_bounds.Given as goal

-- the arcs so far are bounded
abbrev pub invariant-loop-arc : goal.invariant-loop-arc
invariant-loop-arc l = record {
  ordered : (k : ℕ) → k < l.arc → slice_index l.bounds.lo k ≤ slice_index l.bounds.hi k;
  low : (k : ℕ) → k < l.arc → slice_index l.bounds.hi k ≤ length (demands l.town);
  illegal : (k : ℕ) → k < l.arc → is_legal l.town k ≡ false → slice_index l.bounds.hi k ≡ 0;
}
