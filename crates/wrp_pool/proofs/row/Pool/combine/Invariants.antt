use Rattle.std.proofs.Common.{◌≡◌, ℕ, ◌*◌, ◌^◌, ◌≤◌, take, unsigned_abs}
use Rattle.wrp_pool.specs.Pools.{combined_coef, combined_side}
use Rattle.wrp_pool.specs.Tallies.{IsTally, number_of}
use Rattle.wrp_pool.proofs.row.Pool.combine.Given as goal

-- the pairs so far are added
abbrev pub invariant-loop-pair : goal.invariant-loop-pair
invariant-loop-pair l = record {
  is_tally : IsTally l.town l.tally;
  exact : (arc : ℕ) → number_of l.tally arc ≡ combined_coef l.self (take l.pair-index l.multipliers) arc;
  size : (arc : ℕ) → unsigned_abs (number_of l.tally arc) ≤ l.pair-index * 2 ^ 80;
  right_side : l.side ≡ combined_side l.self (take l.pair-index l.multipliers);
  side_size : unsigned_abs l.side ≤ l.pair-index * 2 ^ 83;
}
