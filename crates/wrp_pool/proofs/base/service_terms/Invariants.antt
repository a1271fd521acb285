use Rattle.std.proofs.Common.{◌≡◌, map, filter, take, pos}
use Rattle.wrp_town.specs.Arcs.{is_legal}
use Rattle.wrp_pool.proofs.base.service_terms.Given as goal

-- the legal arcs so far have their terms
abbrev pub invariant-loop-arc : goal.invariant-loop-arc
invariant-loop-arc l = l.terms ≡ map (λ arc. (arc, pos 1)) (filter (is_legal l.town) (take l.arc-index l.demand))
