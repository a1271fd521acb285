use Rattle.std.proofs.Common.{◌≡◌, length}
use Rattle.wrp_records.specs.Fields.{trim_start}
use Rattle.wrp_records.proofs.fields.trim_start.Given as goal

-- the field and what is left of it have the same trimmed start
abbrev pub invariant-loop-first : goal.invariant-loop-first
invariant-loop-first l = trim_start l.rest ≡ trim_start l.fn.field

abbrev pub decreases-loop-first : goal.decreases-loop-first
decreases-loop-first l = length l.rest
