use Rattle.std.proofs.Common.{◌≡◌, vec_len}
use Rattle.wrp_point_tour.specs.Counts.{AreTimes}
use Rattle.wrp_point_tour.proofs.whole.whole_counts.Given as goal

-- the numbers so far are whole
abbrev pub invariant-loop-number : goal.invariant-loop-number
invariant-loop-number l = record { long : vec_len l.counts ≡ l.number-index; times : AreTimes l.point l.most l.counts.items }
