use Rattle.std.proofs.Common.{◌≡◌, ◌++◌, filter}
use Rattle.std.specs.List.{range_with_len}
use Rattle.wrp_town.specs.Arcs.{is_legal}
use Rattle.wrp_pool.specs.Cuts.{terms_unless_zero}
use Rattle.wrp_pool.specs.Chains.{distance_at}
use Rattle.wrp_pool.proofs.kc.push_distances.Given as goal

-- the terms of the arcs so far are added
abbrev pub invariant-loop-arc : goal.invariant-loop-arc
invariant-loop-arc l =
    l.terms.items ≡ l.initial.terms.items ++ terms_unless_zero (distance_at l.town l.last l.of) (filter (is_legal l.town) (range_with_len 0 l.arc))
