use Rattle.std.proofs.Common.{◌≡◌, ◌++◌, length}
use Rattle.wrp_check.proofs.branch.gather_all.Given as goal

-- the numbers so far are in the vector
abbrev pub invariant-loop-number : goal.invariant-loop-number
invariant-loop-number l = l.into.items ++ l.ahead ≡ l.numbers

abbrev pub decreases-loop-number : goal.decreases-loop-number
decreases-loop-number l = length l.ahead
