use Rattle.std.proofs.Common.{◌≡◌, true, ◌||◌, not, unsigned_abs}
use Rattle.std.specs.Prelude.{nat_le}
use Rattle.std.specs.List.{list_all, range_with_len}
use Rattle.wrp_town.specs.Arcs.{is_legal}
use Rattle.wrp_rules.specs.Rows.{most_coefficient}
use Rattle.wrp_rows.specs.Tables.{number_at}
use Rattle.wrp_rows.proofs.rounding.are_narrow.Given as goal

-- the arcs so far are narrow
abbrev pub invariant-loop-arc : goal.invariant-loop-arc
invariant-loop-arc l =
    list_all (λ arc. not (is_legal l.town arc) || nat_le (unsigned_abs (number_at l.sums arc)) most_coefficient) (range_with_len 0 l.arc) ≡ true
