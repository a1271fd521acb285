use Rattle.std.proofs.Common.{◌≡◌, ◌++◌, map, drop}
use Rattle.wrp_town.specs.Streets.{demands_from}
use Rattle.wrp_town.specs.Arcs.{demands}
use Rattle.wrp_pool.specs.Sparse.{sparse_service}
use Rattle.wrp_pool.proofs.base.push_services.Given as goal

-- with the rows of the streets that are left, the rows are the whole
abbrev pub invariant-loop-i : goal.invariant-loop-i
invariant-loop-i l =
    l.rows.items ++ map (sparse_service l.town) (demands_from l.i (drop l.i l.town.streets)) ≡ l.initial.rows.items ++ map (sparse_service l.town) (demands l.town)
