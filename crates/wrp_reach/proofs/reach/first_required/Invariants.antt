use Rattle.std.proofs.Common.{◌≡◌, length, drop}
use Rattle.wrp_town.specs.Streets.{demands_from}
use Rattle.wrp_town.specs.Arcs.{demands}
use Rattle.wrp_reach.proofs.reach.first_required.Given as goal

-- the streets that are left have all demands
abbrev pub invariant-loop-s : goal.invariant-loop-s
invariant-loop-s l = length (demands_from l.s (drop l.s l.town.streets)) ≡ length (demands l.town)
