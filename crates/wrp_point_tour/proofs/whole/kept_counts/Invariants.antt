use Rattle.std.proofs.Common.{◌≡◌, ℕ, ◌<◌, cond, vec_len, slice_index}
use Rattle.wrp_town.specs.Arcs.{tail_of}
use Rattle.wrp_point_tour.specs.Counts.{is_marked}
use Rattle.wrp_point_tour.proofs.whole.kept_counts.Given as goal

-- the arcs so far have their counts
abbrev pub invariant-loop-arc : goal.invariant-loop-arc
invariant-loop-arc l = record {
  long : vec_len l.kept ≡ l.arc;
  kept : (k : ℕ) → k < l.arc → slice_index l.kept.items k ≡ cond (is_marked l.marks (tail_of l.town k)) (slice_index l.counts k) 0;
}
