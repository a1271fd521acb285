use Rattle.std.proofs.Common.{◌≡◌, ◌&&◌, map, drop}
use Rattle.std.specs.List.{list_all}
use Rattle.wrp_rules.specs.Ranges.{are_pairs, is_from_one}
use Rattle.wrp_writer.specs.Seen.{pairs_seen}
use Rattle.wrp_writer.proofs.Ascending.{rises}
use Rattle.wrp_writer.proofs.limits.are_pairs.Given as goal

abbrev pub invariant-loop-at : goal.invariant-loop-at
invariant-loop-at l =
    let left = drop l.at (pairs_seen l.pairs) in
    (rises l.low (map (λ q. q.0) left) && list_all (λ q. is_from_one l.most q.1) left) ≡ are_pairs l.most (pairs_seen l.pairs)
