use Rattle.std.proofs.Common.{◌≡◌, take}
use Rattle.wrp_rules.specs.Ranges.{most_multipliers}
use Rattle.wrp_bound.specs.Mults.{scaled, HaveRowNumbers}
use Rattle.wrp_bound.proofs.mult.scaled.Given as goal

-- the multipliers so far are scaled
abbrev pub invariant-loop-pair : goal.invariant-loop-pair
invariant-loop-pair l = record {
  value : l.list ≡ take most_multipliers (scaled l.scale (take l.pair-index l.mult));
  rows : HaveRowNumbers l.list;
}
