use Rattle.std.proofs.Common.{◌≡◌, ◌≤◌, [], length, take}
use Rattle.std.specs.List.{All}
use Rattle.wrp_conn.specs.Founds.{AreFound}
use Rattle.wrp_conn.specs.Shrunk.{IsFar}
use Rattle.wrp_conn.proofs.pairs.see_others.Given as goal

-- what the others so far have shown
abbrev pub invariant-loop-other : goal.invariant-loop-other
invariant-loop-other l = record {
  found : AreFound l.town l.point l.cuts.items;
  grown : length l.initial.cuts.items ≤ length l.cuts.items;
  none : l.cuts.items ≡ [] → All (IsFar l.town l.shrunk.net l.point.den l.street) (take l.other-index l.others);
}
