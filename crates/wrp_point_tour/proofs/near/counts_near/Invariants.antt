use Rattle.std.proofs.Common.{◌≡◌, vec_len}
use Rattle.wrp_point_tour.proofs.near.counts_near.Given as goal

abbrev pub invariant-loop-number : goal.invariant-loop-number
invariant-loop-number l = vec_len l.counts ≡ l.number-index
