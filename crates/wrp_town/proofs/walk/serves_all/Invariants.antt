use Rattle.std.proofs.Common.{◌≡◌, drop}
use Rattle.std.specs.List.{list_all}
use Rattle.wrp_town.specs.Streets.{demands_from}
use Rattle.wrp_town.specs.Walks.{serves, serves_all}
use Rattle.wrp_town.proofs.walk.serves_all.Given as goal

-- the demands of the streets that are left decide
abbrev pub invariant-loop-i : goal.invariant-loop-i
invariant-loop-i l = list_all (serves l.steps) (demands_from l.i (drop l.i l.town.streets)) ≡ serves_all l.fn.town l.fn.steps
