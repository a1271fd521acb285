use Rattle.std.proofs.Common.{◌≡◌, ◌++◌, drop}
use Rattle.wrp_records.specs.Lines.{doubled}
use Rattle.wrp_records.proofs.lines.push_doubled.Given as goal

-- what is written, and then the rest of the field doubled, is the whole
abbrev pub invariant-loop-byte : goal.invariant-loop-byte
invariant-loop-byte l = l.out.items ++ doubled (drop l.byte-index l.field) ≡ l.fn.out.items ++ doubled l.fn.field
