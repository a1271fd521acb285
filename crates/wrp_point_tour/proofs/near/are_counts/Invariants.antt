use Rattle.std.proofs.Common.{◌≡◌, ℕ, ◌<◌, ◌≤◌, length, false, slice_index}
use Rattle.wrp_town.specs.Arcs.{is_legal, demands}
use Rattle.wrp_point_tour.proofs.near.are_counts.Given as goal

-- the arcs so far have few uses, and none where they are illegal
abbrev pub invariant-loop-arc : goal.invariant-loop-arc
invariant-loop-arc l = record {
  few : (k : ℕ) → k < l.arc → slice_index l.counts k ≤ length (demands l.town);
  legal : (k : ℕ) → k < l.arc → is_legal l.town k ≡ false → slice_index l.counts k ≡ 0;
}
