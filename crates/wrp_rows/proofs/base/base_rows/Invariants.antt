use Rattle.std.proofs.Common.{◌≡◌, map}
use Rattle.std.specs.List.{range_with_len}
use Rattle.wrp_rules.specs.Rows.{balance_row}
use Rattle.wrp_rows.specs.Pools.{sparse_of}
use Rattle.wrp_rows.proofs.base.base_rows.Given as goal

-- the balance rows of the junctions so far are there
abbrev pub invariant-loop-junction : goal.invariant-loop-junction
invariant-loop-junction l =
    l.table ≡ map (λ j. sparse_of l.town (balance_row l.town j)) (range_with_len 0 l.junction)
