use Rattle.std.proofs.Common.{◌≡◌, ◌+◌, length, drop}
use Rattle.wrp_town.specs.Streets.{demands_from}
use Rattle.wrp_town.specs.Arcs.{demands}
use Rattle.wrp_town.proofs.size.demand_count.Given as goal

-- the demands so far and those of the streets that are left are all demands
abbrev pub invariant-loop-street : goal.invariant-loop-street
invariant-loop-street l =
    l.count + length (demands_from l.street-index (drop l.street-index l.town.streets)) ≡ length (demands l.town)
