use Rattle.std.proofs.Common.{◌≡◌, ◌+◌, length}
use Rattle.wrp_tableau.specs.Changes.{changed_rows}
use Rattle.wrp_tableau.proofs.Applying.{changed_from}
use Rattle.wrp_tableau.proofs.change.apply_all.Given as goal

abbrev pub invariant-loop-k : goal.invariant-loop-k
invariant-loop-k l = record {
  rest : changed_from l.k-iterator.count l.rows.items l.k-iterator.iter.rest.items
      ≡ changed_rows l.initial.rows.items l.fn.changes.items;
  count : l.k-iterator.count + length l.k-iterator.iter.rest.items ≡ length l.rows.items;
}
