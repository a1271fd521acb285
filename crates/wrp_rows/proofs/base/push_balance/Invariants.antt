use Rattle.std.proofs.Common.{◌≡◌, map, take}
use Rattle.wrp_rows.specs.Base.{sign_at}
use Rattle.wrp_rows.proofs.base.push_balance.Given as goal

-- the arcs so far have their terms
abbrev pub invariant-loop-arc : goal.invariant-loop-arc
invariant-loop-arc l =
    l.terms.items ≡ map (λ arc. (arc, sign_at l.town l.junction arc)) (take l.arc-index l.star)
