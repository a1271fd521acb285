use Rattle.std.proofs.Common.{◌≡◌, take}
use Rattle.wrp_lp.specs.Building.{coefs_of}
use Rattle.wrp_lp.proofs.lines.coefs_of.Given as goal

-- the coefficients by the terms so far
abbrev pub invariant-loop-arc : goal.invariant-loop-arc
invariant-loop-arc l = l.coefs.items ≡ coefs_of l.town (take l.arc-index l.terms)
