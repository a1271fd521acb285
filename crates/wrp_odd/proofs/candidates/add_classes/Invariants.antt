use Rattle.std.proofs.Common.{Contains}
use Rattle.wrp_rules.specs.declared.record.Record.{Record}
use Rattle.wrp_odd.specs.Found.{IsFound}
use Rattle.wrp_odd.proofs.candidates.add_classes.Given as goal

abbrev pub invariant-loop-label : goal.invariant-loop-label
invariant-loop-label l = record {
  found : IsFound l.town l.point l.found;
  kept : (item : Record) → Contains l.fn.found.records.items item → Contains l.found.records.items item;
}
