use Rattle.std.proofs.Common.{◌≡◌, ◌==◌, slice_index}
use Rattle.std.specs.List.{filter, range_with_len}
use Rattle.wrp_reach.proofs.reach.junctions_at.Given as goal

-- the junctions so far that have the label are there
abbrev pub invariant-loop-j : goal.invariant-loop-j
invariant-loop-j l = l.part ≡ filter (λ j. slice_index l.labels j == l.label) (range_with_len 0 l.j)
