use Rattle.std.proofs.Common.{◌≡◌, ◌+◌, ◌*◌, ◌^◌, ◌≤◌, ◌+ℤ◌, take, unsigned_abs}
use Rattle.wrp_sums.specs.Sums.{sum_over}
use Rattle.wrp_check.specs.Values.{term_at}
use Rattle.wrp_check.proofs.value.listed_value.Given as goal

-- the terms of the arcs so far are added
abbrev pub invariant-loop-arc : goal.invariant-loop-arc
invariant-loop-arc l = record {
  value : l.value ≡ l.side +ℤ sum_over (term_at l.town l.boxes l.tally l.scale) (take l.arc-index l.arc-items);
  size : unsigned_abs l.value ≤ 2 ^ 95 + l.arc-index * 2 ^ 109;
}
