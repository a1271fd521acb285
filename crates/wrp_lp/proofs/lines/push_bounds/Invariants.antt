use Rattle.std.proofs.Common.{◌≡◌, ◌++◌, All}
use Rattle.std.specs.Prelude.{slice_index}
use Rattle.std.specs.List.{range_with_len, flat_map}
use Rattle.wrp_tableau.specs.Starts.{IsLine}
use Rattle.wrp_lp.specs.Relaxed.{width}
use Rattle.wrp_lp.specs.Building.{lines_at}
use Rattle.wrp_lp.proofs.lines.push_bounds.Given as goal

abbrev pub invariant-loop-arc : goal.invariant-loop-arc
invariant-loop-arc l = record {
  lines : l.lines.items ≡ l.initial.lines.items ++ flat_map (λ arc. lines_at l.town (slice_index l.bounds.lo arc) (slice_index l.bounds.hi arc) arc) (range_with_len 0 l.arc);
  fit : All (IsLine (width l.town)) l.lines.items;
}
