use Rattle.std.proofs.Common.{◌≡◌, ◌≤◌, ◌++◌, length}
use Rattle.wrp_check.proofs.gather.gather_numbers.Given as goal

-- the numbers so far are in the vector
abbrev pub invariant-loop-number : goal.invariant-loop-number
invariant-loop-number l = record {
  items : l.into.items ++ l.ahead ≡ l.numbers;
  few : length l.into.items ≤ l.most;
}

abbrev pub decreases-loop-number : goal.decreases-loop-number
decreases-loop-number l = length l.ahead
