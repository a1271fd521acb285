use Rattle.std.proofs.Common.{◌≡◌, ◌++◌, drop, map}
use Rattle.wrp_records.specs.Lines.{after_commas}
use Rattle.wrp_records.proofs.lines.push_after_commas.Given as goal

-- what is written, and then the fields that are left, is the whole
abbrev pub invariant-loop-field : goal.invariant-loop-field
invariant-loop-field l =
    l.out.items ++ after_commas (map (λ field. field.now) (drop l.field-index l.fields)) ≡ l.fn.out.items ++ after_commas (map (λ field. field.now) l.fn.fields)
