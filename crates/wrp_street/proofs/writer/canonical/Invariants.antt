use Rattle.std.proofs.Common.{◌≡◌, ◌++◌, drop, map}
use Rattle.wrp_records.specs.Lines.{lines_text}
use Rattle.wrp_street.specs.Canonical.{fields_of_street, canonical_of}
use Rattle.wrp_street.proofs.writer.canonical.Given as goal

-- what is written, and then the streets that are left, is the whole
abbrev pub invariant-loop-street : goal.invariant-loop-street
invariant-loop-street l =
    l.table.items ++ lines_text (map (fields_of_street l.town.junctions) (drop l.street-index l.town.streets)) ≡ canonical_of l.town
