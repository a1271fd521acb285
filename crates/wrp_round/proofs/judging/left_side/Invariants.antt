use Rattle.std.proofs.Common.{◌≡◌, ◌*◌, ◌^◌, ◌≤◌, pos, ◌*ℤ◌, unsigned_abs, filter}
use Rattle.wrp_sums.specs.Sums.{sum_over, numbers_below}
use Rattle.wrp_town.specs.Arcs.{is_legal}
use Rattle.wrp_rows.specs.Tables.{number_at}
use Rattle.wrp_odd.specs.Points.{numbers_of}
use Rattle.wrp_round.proofs.judging.left_side.Given as goal

-- the sum so far, and its size
abbrev pub invariant-loop-arc : goal.invariant-loop-arc
invariant-loop-arc l = record {
  value : l.left ≡ sum_over (λ arc. number_at l.sums arc *ℤ pos (numbers_of l.point arc)) (filter (is_legal l.town) (numbers_below l.arc));
  small : unsigned_abs l.left ≤ l.arc * 2 ^ 92;
}
