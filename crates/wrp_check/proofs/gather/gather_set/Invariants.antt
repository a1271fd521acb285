use Rattle.std.proofs.Common.{◌≡◌, ◌++◌, length}
use Rattle.wrp_rules.specs.Rules.{all_below}
use Rattle.wrp_check.proofs.gather.gather_set.Given as goal

-- the junctions so far are in the set, and those that come decide
abbrev pub invariant-loop-junction : goal.invariant-loop-junction
invariant-loop-junction l = record {
  among : l.set.among ≡ l.fn.set.among;
  items : l.set.set ++ l.ahead ≡ l.junctions;
  rest : all_below l.fn.set.among l.ahead ≡ all_below l.fn.set.among l.junctions;
}

abbrev pub decreases-loop-junction : goal.decreases-loop-junction
decreases-loop-junction l = length l.ahead
