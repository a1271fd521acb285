use Rattle.std.proofs.Common.{◌≡◌, ◌++◌, nat_lt, length}
use Rattle.std.specs.List.{list_all}
use Rattle.wrp_check.proofs.gather.gather_pairs.Given as goal

-- the pairs so far are in the vector, and those that come decide
abbrev pub invariant-loop-pair : goal.invariant-loop-pair
invariant-loop-pair l = record {
  items : l.into.items ++ l.ahead ≡ l.pairs;
  rest : list_all (λ q. nat_lt q.0 l.limit) l.ahead ≡ list_all (λ q. nat_lt q.0 l.limit) l.pairs;
}

abbrev pub decreases-loop-pair : goal.decreases-loop-pair
decreases-loop-pair l = length l.ahead
