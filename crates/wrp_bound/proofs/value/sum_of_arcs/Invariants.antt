use Rattle.std.proofs.Common.{◌≡◌, ◌*◌, ◌≤◌, filter, unsigned_abs}
use Rattle.std.specs.List.{range_with_len}
use Rattle.wrp_sums.specs.Sums.{sum_over}
use Rattle.wrp_town.specs.Arcs.{is_legal}
use Rattle.wrp_rows.specs.Tables.{number_at}
use Rattle.wrp_bound.specs.Values.{arc_value, most_arc_value}
use Rattle.wrp_bound.proofs.value.sum_of_arcs.Given as goal

-- the arcs so far are summed
abbrev pub invariant-loop-arc : goal.invariant-loop-arc
invariant-loop-arc l = record {
  value : l.total ≡ sum_over (arc_value l.town l.factor l.bounds (number_at l.combined)) (filter (is_legal l.town) (range_with_len 0 l.arc));
  small : unsigned_abs l.total ≤ l.arc * most_arc_value;
}
