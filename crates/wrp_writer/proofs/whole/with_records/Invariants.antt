use Rattle.std.proofs.Common.{◌≡◌, ◌++◌, drop}
use Rattle.wrp_rules.specs.Proofs.{record_lines}
use Rattle.wrp_writer.proofs.whole.with_records.Given as goal

abbrev pub invariant-loop-item : goal.invariant-loop-item
invariant-loop-item l = l.text.items ++ record_lines (drop l.item-index l.records) ≡ l.fn.start.items ++ record_lines l.records
