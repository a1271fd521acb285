use Rattle.std.proofs.Common.{◌≡◌}
use Rattle.std.specs.List.{flat_map, range_with_len}
use Rattle.wrp_rows.specs.Base.{ends_at}
use Rattle.wrp_rows.proofs.base.stars.Given as goal

-- the ends of the arcs so far are there
abbrev pub invariant-loop-arc : goal.invariant-loop-arc
invariant-loop-arc l = l.ends.items ≡ flat_map (ends_at l.town) (range_with_len 0 l.arc)
