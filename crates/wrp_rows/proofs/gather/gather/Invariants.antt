use Rattle.std.proofs.Common.{◌≡◌, map, filter}
use Rattle.std.specs.List.{range_with_len}
use Rattle.wrp_rows.specs.Pools.{is_term}
use Rattle.wrp_rows.specs.Patterns.{coef_by}
use Rattle.wrp_rows.proofs.gather.gather.Given as goal

-- the terms of the arcs so far are there
abbrev pub invariant-loop-arc : goal.invariant-loop-arc
invariant-loop-arc l =
    l.terms.items ≡ map (λ a. (a, coef_by l.town l.pattern a)) (filter (is_term l.town (coef_by l.town l.pattern)) (range_with_len 0 l.arc))
