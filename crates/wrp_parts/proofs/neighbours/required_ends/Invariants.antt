use Rattle.std.proofs.Common.{◌≡◌}
use Rattle.std.specs.List.{range_with_len}
use Rattle.wrp_parts.specs.Neighbours.{required_ends_of}
use Rattle.wrp_parts.proofs.neighbours.required_ends.Given as goal

-- the ends of the arcs so far are there
abbrev pub invariant-loop-arc : goal.invariant-loop-arc
invariant-loop-arc l = l.ends.items ≡ required_ends_of l.town (range_with_len 0 l.arc)
