use Rattle.std.proofs.Common.{◌&&◌, map, ap}
use Rattle.std.specs.List.{list_all}
use Rattle.wrp_rules.specs.Ranges.{is_from_one}
use Rattle.wrp_writer.specs.Seen.{pairs_seen}
use Rattle.wrp_writer.proofs.Ascending.{rises-start}
use Rattle.wrp_writer.proofs.limits.are_pairs.Goals as goal

pub loop-at-init : goal.loop-at-init
loop-at-init c =
    let pairs = pairs_seen c.args.pairs in
    ap (λ up. up && list_all (λ q. is_from_one c.args.most q.1) pairs) (rises-start (map (λ q. q.0) pairs))
