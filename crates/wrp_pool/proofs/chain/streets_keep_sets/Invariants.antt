use Rattle.std.proofs.Common.{◌≡◌, true}
use Rattle.std.specs.List.{list_all, range_with_len}
use Rattle.wrp_pool.specs.Chains.{keeps_sets}
use Rattle.wrp_pool.proofs.chain.streets_keep_sets.Given as goal

-- the streets so far keep to their sets
abbrev pub invariant-loop-street : goal.invariant-loop-street
invariant-loop-street l = list_all (keeps_sets l.town l.last l.of) (range_with_len 0 l.street) ≡ true
