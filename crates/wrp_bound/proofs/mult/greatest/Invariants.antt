use Rattle.std.proofs.Common.{◌≡◌, max, drop}
use Rattle.wrp_bound.specs.Mults.{greatest}
use Rattle.wrp_bound.proofs.mult.greatest.Given as goal

-- the greatest so far and that of the rest are the whole
abbrev pub invariant-loop-pair : goal.invariant-loop-pair
invariant-loop-pair l = max l.most (greatest (drop l.pair-index l.mult)) ≡ greatest l.mult
