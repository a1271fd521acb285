use Rattle.std.proofs.Common.{◌≡◌}
use Rattle.std.specs.List.{range_with_len}
use Rattle.wrp_graph.specs.Stars.{tails_of, heads_of}
use Rattle.wrp_graph.proofs.ends.Ends.of_town.Given as goal

-- the legal arcs so far are there
abbrev pub invariant-loop-arc : goal.invariant-loop-arc
invariant-loop-arc l = record {
  tails : l.ends.tails.items ≡ tails_of l.town (range_with_len 0 l.arc);
  heads : l.ends.heads.items ≡ heads_of l.town (range_with_len 0 l.arc);
}
